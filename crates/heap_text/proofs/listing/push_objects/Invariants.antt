use Rattle.std.proofs.Common.{◌≡◌, ◌++◌, map, take}
use Rattle.std.specs.Prelude.{flat_map}
use Rattle.model.specs.Graph.{object_at}
use Rattle.model.specs.Text.{object_line}
use Rattle.layout.specs.Place.{place_word}
use Rattle.heap_text.proofs.listing.push_objects.Given as goal

abbrev pub invariant-loop-place : goal.invariant-loop-place
invariant-loop-place g l = l.text.items ≡ l.fn.text.items ++ flat_map (λ place. object_line (map place_word l.numbering.places.items) (place_word place) (object_at l.heap.graph (place_word place))) (take l.place-index l.numbering.places.items)
