use Rattle.std.proofs.Common.{ℕ, List, ◌++◌, map, ap, ◌∙◌}
use Rattle.std.specs.Prelude.{flat_map}
use Rattle.model.specs.Graph.{object_at}
use Rattle.model.specs.Text.{root_line, object_line}
use Rattle.layout.specs.Place.{place_word}
use Rattle.heap_text.specs.HeapLines.{named_objects, name_value}
use Rattle.heap_text.proofs.listing.text_of.Goals as goal

pub returns : goal.returns
returns g c =
    let graph = c.args.heap.now.graph in
    let named = named_objects graph (map name_value c.args.names.now) in
    let roots_of : List ℕ → List ℕ = λ order. flat_map (root_line order) named in
    let objects_of : List ℕ → List ℕ = λ order. flat_map (λ name. object_line order name (object_at graph name)) order in
    let order = map place_word c.in_ok-numbering.numbering.places.items in
    c.in_ok-push_objects.ensures
    ∙ ap (λ t. t ++ objects_of order) (c.in_ok-push_roots.ensures ∙ ap (λ t. t ++ roots_of order) c.new-text.ensures.items)
    ∙ ap (λ o. roots_of o ++ objects_of o) c.in_ok-numbering.ensures.order
