-- How the objects of a block change by a push, and where they begin.
use Rattle.std.proofs.Common.{◌≡◌, ℕ, zero, suc, ◌+◌, ◌-◌, ◌<◌, ◌≤◌, List, [], ◌∷◌, ◌++◌, length, take, ap, arith, length-append}
use Rattle.std.proofs.lemmas.List.{take_at, take-append-le}
use Rattle.std.proofs.lemmas.List.Sums.{sum_by_push, sum_by-cons, sum_by-take-le}
use Rattle.layout.specs.Object.{Raw, raw_size}
use Rattle.block_pool.specs.BlockValue.{words_of, offset_of, without_last}

-- to take back the last object undoes the push of it
pub without_last-push : (objects : List Raw) (object : Raw) → without_last (objects ++ object ∷ []) ≡ objects
without_last-push objects object =
    take_at objects (object ∷ []) (length (objects ++ object ∷ []) - 1) (omega (arith, length-append objects (object ∷ [])))

pub words_of-push : (objects : List Raw) (object : Raw) → words_of (objects ++ object ∷ []) ≡ words_of objects + raw_size object
words_of-push objects object = sum_by_push raw_size objects object

-- a pushed object begins where the others end, and the others stay
pub offset_of-push : (objects : List Raw) (object : Raw) → offset_of (objects ++ object ∷ []) (length objects) ≡ words_of objects
offset_of-push objects object = ap words_of (take_at objects (object ∷ []) (length objects) (omega arith))

pub offset_of-append : (objects more : List Raw) (k : ℕ) → k ≤ length objects → offset_of (objects ++ more) k ≡ offset_of objects k
offset_of-append objects more k h = ap words_of (take-append-le k objects more h)

-- objects begin one after the other
pub offset_of-rises : (objects : List Raw) (i j : ℕ) → i < j → j ≤ length objects → offset_of objects i < offset_of objects j
offset_of-rises [] i j h l = absurd (omega arith)
offset_of-rises (object ∷ objects) i zero h l = absurd (omega arith)
offset_of-rises (object ∷ objects) zero (suc j) h l = omega (arith, sum_by-cons raw_size object (take j objects))
offset_of-rises (object ∷ objects) (suc i) (suc j) h l =
    omega (arith, offset_of-rises objects i j (omega arith) (omega arith), sum_by-cons raw_size object (take i objects), sum_by-cons raw_size object (take j objects))

-- each object begins within the used words
pub offset_of-le : (objects : List Raw) (k : ℕ) → offset_of objects k ≤ words_of objects
offset_of-le objects k = sum_by-take-le raw_size objects k
