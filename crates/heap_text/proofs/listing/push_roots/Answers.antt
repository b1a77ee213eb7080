use Rattle.std.proofs.Common.{◌++◌, map, sym, ap, ◌∙◌}
use Rattle.std.specs.Prelude.{flat_map}
use Rattle.model.specs.Text.{root_line}
use Rattle.layout.specs.Place.{place_word}
use Rattle.heap_text.specs.HeapLines.{name_value, object_of_name}
use Rattle.model.proofs.Joined.{written_all, map_twice}
use Rattle.heap_text.proofs.listing.push_roots.Goals as goal

pub returns : goal.returns
returns g c =
    written_all (root_line (map place_word c.args.numbering.now.places.items)) (λ name. object_of_name c.args.heap.now.graph (name_value name)) c.args.text.now.items c.loop-name.text.items c.args.names.now c.loop-name.name-index c.loop-name-test.false c.loop-name.invariant
    ∙ ap (λ es. c.args.text.now.items ++ flat_map (root_line (map place_word c.args.numbering.now.places.items)) es) (sym (map_twice (object_of_name c.args.heap.now.graph) name_value c.args.names.now))
