use Rattle.std.proofs.Common.{◌≡◌, ◌++◌, map, take}
use Rattle.std.specs.Prelude.{flat_map}
use Rattle.model.specs.Text.{root_line}
use Rattle.layout.specs.Place.{place_word}
use Rattle.heap_text.specs.HeapLines.{name_value, object_of_name}
use Rattle.heap_text.proofs.listing.push_roots.Given as goal

abbrev pub invariant-loop-name : goal.invariant-loop-name
invariant-loop-name g l = l.text.items ≡ l.fn.text.items ++ flat_map (λ name. root_line (map place_word l.numbering.places.items) (object_of_name l.heap.graph (name_value name))) (take l.name-index l.names)
