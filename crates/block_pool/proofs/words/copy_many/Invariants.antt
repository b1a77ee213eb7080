use Rattle.std.proofs.Common.{◌≡◌, take, drop}
use Rattle.block_pool.proofs.words.copy_many.Given as goal

abbrev pub invariant-loop-i : goal.invariant-loop-i
invariant-loop-i l = record { kept : take l.at l.words ≡ take l.at l.initial.words; copied : take l.i (drop l.at l.words) ≡ take l.i (drop l.offset l.from) }
