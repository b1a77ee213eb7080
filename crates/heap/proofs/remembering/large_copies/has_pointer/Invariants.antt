use Rattle.std.proofs.Common.{◌≡◌, false, map, take}
use Rattle.std.specs.Prelude.{is_some}
use Rattle.std.specs.List.{list_any}
use Rattle.steps.specs.Words.{target_of_word}
use Rattle.heap.proofs.remembering.large_copies.has_pointer.Given as goal

-- none so far
abbrev pub invariant-loop-word : goal.invariant-loop-word
invariant-loop-word l = list_any is_some (map target_of_word (take l.word-index l.words)) ≡ false
