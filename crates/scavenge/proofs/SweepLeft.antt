-- Less is left of the block in hand once a slot is finished, or an object scanned.
use Rattle.std.proofs.Common.{◌≡◌, ℕ, zero, suc, ◌+◌, ◌<◌, ◌≤◌, List, [], ◌∷◌, length, drop, Option, Some, sym, subst, arith}
use Rattle.std.proofs.lemmas.List.{length-set}
use Rattle.std.proofs.lemmas.List.Sums.{sum_by-cons}
use Rattle.std.specs.Prelude.{slice_get, slice_set, sum_by}
use Rattle.workers.specs.Block.{Block, Copy, updated, with_field, with_front_moved, front_copy}
use Rattle.workers.specs.Worker.{Holding}
use Rattle.scavenge.specs.Swept.{steps_of, left_from, left_in}

from_most : (copies : List Copy) → left_from copies 0 ≤ sum_by steps_of copies
from_most [] = omega arith
from_most (c ∷ cs) = let e : sum_by steps_of (c ∷ cs) ≡ steps_of c + sum_by steps_of cs = sum_by-cons steps_of c cs in omega (arith, e)

abbrev pub with_slot : ℕ → Option ℕ → Copy → Copy
with_slot i value copy = record copy { pointers = slice_set copy.pointers i value }

written : (copies : List Copy) (k i : ℕ) (value : Option ℕ) (copy : Copy) → slice_get copies k ≡ Some copy → i < length copy.pointers
    → left_from (drop k (updated (with_slot i value) copies k)) (i + 1) < left_from (drop k copies) i
written [] k i value copy e l = absurd (cc)
written (c ∷ cs) zero i value copy e l =
    let q : c ≡ copy = cc in
    let m : i < length c.pointers = subst (λ (x : Copy). i < length x.pointers) (sym q) l in
    let n : length (slice_set c.pointers i value) ≡ length c.pointers = length-set c.pointers i value in
    omega (arith, m, n)
written (c ∷ cs) (suc k) i value copy e l = written cs k i value copy e l

passed : (copies : List Copy) (k i : ℕ) (copy : Copy) → slice_get copies k ≡ Some copy → left_from (drop (k + 1) copies) 0 < left_from (drop k copies) i
passed [] k i copy e = absurd (cc)
passed (c ∷ cs) zero i copy e = let m = from_most cs in omega (arith, m)
passed (c ∷ cs) (suc k) i copy e =
    let n : suc k + 1 ≡ suc (k + 1) = omega arith in
    subst (λ m. left_from (drop m (c ∷ cs)) 0 < left_from (drop k cs) i) (sym n) (passed cs k i copy e)

-- a slot is finished
pub left_written : (block : Block) (i : ℕ) (value : Option ℕ) (copy : Copy) → front_copy block ≡ Some copy → i < length copy.pointers → left_in (Holding (with_field i value block)) (i + 1) < left_in (Holding block) i
left_written block i value copy there l = written block.copies block.front i value copy there l

-- an object is scanned
pub left_passed : (block : Block) (i : ℕ) (copy : Copy) → front_copy block ≡ Some copy → left_in (Holding (with_front_moved block)) 0 < left_in (Holding block) i
left_passed block i copy there = passed block.copies block.front i copy there
