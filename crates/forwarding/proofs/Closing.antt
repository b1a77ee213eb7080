-- The words of a closed table that are those of names.
use Rattle.std.proofs.Common.{◌≡◌, ℕ, zero, suc, ◌<◌, List, [], ◌∷◌, length, take, Some, ap, arith}
use Rattle.std.specs.Prelude.{slice_get}
use mathlib.Core.Option.{some, some-injective}
use lib.ListN.{get_elem?}

-- a word among the first is there
pub among_first : (words : List ℕ) (n name w : ℕ) → name < length (take n words) → get_elem? words name ≡ some w → slice_get (take n words) name ≡ Some w
among_first [] zero name w below e = absurd (omega (arith, below))
among_first [] (suc n) name w below e = absurd (omega (arith, below))
among_first (x ∷ xs) zero name w below e = absurd (omega (arith, below))
among_first (x ∷ xs) (suc n) zero w below e = ap Some (some-injective x w e)
among_first (x ∷ xs) (suc n) (suc k) w below e = among_first xs n k w (omega (arith, below)) e
