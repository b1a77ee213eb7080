use Rattle.std.proofs.Common.{◌≡◌, ◌++◌, map, take}
use Rattle.std.specs.List.{join_with_byte}
use Rattle.model.specs.Text.{pointer_text}
use Rattle.layout.specs.Place.{place_word}
use Rattle.heap.specs.Words.{target_of_word}
use Rattle.heap_text.proofs.listing.push_pointers.Given as goal

abbrev pub invariant-loop-i : goal.invariant-loop-i
invariant-loop-i g l = l.text.items ≡ l.fn.text.items ++ join_with_byte 32 (map (λ word. pointer_text (map place_word l.numbering.places.items) (target_of_word word)) (take l.i l.pointers))
