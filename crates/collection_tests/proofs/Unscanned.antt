-- A table whose block for a destination has something unscanned.
use Rattle.std.proofs.Common.{◌≡◌, ℕ, zero, suc, ◌+◌, ◌<◌, true, false, List, [], ◌∷◌, length, Option, Some, None, arith, ltb-true}
use Rattle.std.specs.Option.{IsSomeAnd}
use Rattle.block_pool.specs.BlockValue.{BlockValue}
use Rattle.scavenge.specs.Fronts.{slot_at, is_unscanned}

pub has_block : (o : Option BlockValue) → is_unscanned o ≡ true → IsSomeAnd o (λ b. b.front < length b.objects)
has_block None e = absurd (let q : false ≡ true = e in cc)
has_block (Some b) e = ltb-true _ _ e

pub is_there : (slots : List (Option BlockValue)) (d : ℕ) → is_unscanned (slot_at slots d) ≡ true → d < length slots
is_there [] d e = absurd (let q : false ≡ true = e in cc)
is_there (s ∷ slots) zero e = omega arith
is_there (s ∷ slots) (suc d) e = let h : d < length slots = is_there slots d e in omega arith
