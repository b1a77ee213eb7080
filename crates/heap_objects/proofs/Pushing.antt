-- Lists by what stands at each place.
use Rattle.std.proofs.Common.{◌≡◌, ℕ, zero, suc, ◌<◌, List, [], ◌∷◌, ◌++◌, length, map, Some, refl, ap, ◌∙◌, arith}
use Rattle.std.specs.Prelude.{slice_get}
use Rattle.model.proofs.Options.{some_is}

pub get-push_before : {X : Type 0} (xs : List X) (x : X) (m : ℕ) → m < length xs → slice_get (xs ++ x ∷ []) m ≡ slice_get xs m
get-push_before [] x m lt = absurd (omega (arith, lt))
get-push_before (y ∷ xs) x zero lt = refl
get-push_before (y ∷ xs) x (suc m) lt = get-push_before xs x m (omega (arith, lt))

pub get-push_last : {X : Type 0} (xs : List X) (x : X) (m : ℕ) → m ≡ length xs → slice_get (xs ++ x ∷ []) m ≡ Some x
get-push_last [] x zero e = refl
get-push_last [] x (suc m) e = absurd (omega (arith, e))
get-push_last (y ∷ xs) x zero e = absurd (omega (arith, e))
get-push_last (y ∷ xs) x (suc m) e = get-push_last xs x m (omega (arith, e))

pub get-map : {X Y : Type 0} (f : X → Y) (xs : List X) (m : ℕ) (x : X) → slice_get xs m ≡ Some x → slice_get (map f xs) m ≡ Some (f x)
get-map f [] m x is = absurd (cc)
get-map f (y ∷ xs) zero x is = ap (λ z. Some (f z)) (some_is is)
get-map f (y ∷ xs) (suc m) x is = get-map f xs m x is

pub get_there : {X : Type 0} (xs : List X) (m : ℕ) → m < length xs → (x : X) × (slice_get xs m ≡ Some x)
get_there [] m lt = absurd (omega (arith, lt))
get_there (y ∷ xs) zero lt = (y, refl)
get_there (y ∷ xs) (suc m) lt = get_there xs m (omega (arith, lt))

-- a list whose entries are those of another, changed one by one
pub same_map : {X : Type 0} (f : X → X) (xs ys : List X) → length ys ≡ length xs → ((m : ℕ) (x : X) → slice_get xs m ≡ Some x → slice_get ys m ≡ Some (f x)) → ys ≡ map f xs
same_map f [] [] len each = refl
same_map f [] (y ∷ ys) len each = absurd (omega (arith, len))
same_map f (x ∷ xs) [] len each = absurd (omega (arith, len))
same_map f (x ∷ xs) (y ∷ ys) len each =
    let here : y ≡ f x = some_is (each 0 x refl) in
    ap (λ z. z ∷ ys) here ∙ ap (λ zs. f x ∷ zs) (same_map f xs ys (omega (arith, len)) (λ m z is. each (suc m) z is))
