-- What holds of each that a test lets through.
use Rattle.std.proofs.Common.{◌≡◌, ◌<◌, ℕ, zero, suc, Bool, true, false, List, [], ◌∷◌, All, length, get_or, arith, cond}
use Rattle.std.specs.List.{filter}

tail_of : {X : Type 0} (P : X → Type 0) (x : X) (xs : List X) (b : Bool) → All P (cond b (x ∷ xs) xs) → All P xs
tail_of P x xs true h = λ k d lt. h (suc k) d (omega arith)
tail_of P x xs false h = h

pub filtered : {X : Type 0} (q : X → Bool) (P : X → Type 0) (xs : List X) → All P (filter q xs) → (k : ℕ) (d : X) → k < length xs → q (get_or xs k d) ≡ true → P (get_or xs k d)
filtered q P [] h k d lt e = absurd (omega arith)
filtered q P (x ∷ xs) h zero d lt e = (rw e at h) 0 d (omega arith)
filtered q P (x ∷ xs) h (suc k) d lt e = filtered q P xs (tail_of P x (filter q xs) (q x) h) k d (omega arith) e
