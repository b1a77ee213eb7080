-- Places in lists.
use Rattle.std.proofs.Common.{◌≡◌, ℕ, zero, suc, ◌+◌, ◌%◌, ◌<◌, Bool, true, false, cond, nat_eq, List, [], ◌∷◌, ◌++◌, length, map, take, drop, Some, refl, sym, ap, ◌∙◌, arith}
use Rattle.std.specs.Prelude.{slice_get, slice_index_or, get_or}
use Rattle.std.proofs.lemmas.List.{map-append}
use Rattle.std.specs.Option.{option_map}
use Rattle.workers.specs.System.{every}
use Rattle.scavenge.proofs.Fields.{length-map}

pub every_more : (n t i : ℕ) (xs : List ℕ) (x : ℕ) → every n t i (xs ++ x ∷ []) ≡ every n t i xs ++ cond (nat_eq ((i + length xs) % n) t) (x ∷ []) []
every_more n t i [] x = let e : i ≡ i + 0 = omega arith in ap (λ k. cond (nat_eq (k % n) t) (x ∷ []) []) e
every_more n t i (y ∷ xs) x =
    let e : (i + 1) + length xs ≡ i + suc (length xs) = omega arith in
    go (nat_eq (i % n) t) (every_more n t (i + 1) xs x ∙ ap (λ k. every n t (i + 1) xs ++ cond (nat_eq (k % n) t) (x ∷ []) []) e)
  where
    go : (b : Bool) → every n t (i + 1) (xs ++ x ∷ []) ≡ every n t (i + 1) xs ++ cond (nat_eq ((i + suc (length xs)) % n) t) (x ∷ []) []
        → cond b (y ∷ every n t (i + 1) (xs ++ x ∷ [])) (every n t (i + 1) (xs ++ x ∷ [])) ≡ cond b (y ∷ every n t (i + 1) xs) (every n t (i + 1) xs) ++ cond (nat_eq ((i + suc (length xs)) % n) t) (x ∷ []) []
    go true h = ap (λ z. y ∷ z) h
    go false h = h

pub take_more : {A : Type 0} (xs : List A) (i : ℕ) (x : A) → slice_get xs i ≡ Some x → take (i + 1) xs ≡ take i xs ++ x ∷ []
take_more [] i x e = absurd (cc)
take_more (y ∷ xs) zero x e = let q : y ≡ x = cc in ap (λ z. z ∷ []) q
take_more (y ∷ xs) (suc i) x e = let n : suc i + 1 ≡ suc (i + 1) = omega arith in ap (λ k. take k (y ∷ xs)) n ∙ ap (λ z. y ∷ z) (take_more xs i x e)

pub length_take : {A : Type 0} (xs : List A) (i : ℕ) → i < length xs → length (take i xs) ≡ i
length_take [] i l = absurd (omega arith)
length_take (x ∷ xs) zero l = refl
length_take (x ∷ xs) (suc i) l = ap suc (length_take xs i (omega arith))

pub get_index : {A : Type 0} (xs : List A) (i : ℕ) (x : A) → i < length xs → slice_get xs i ≡ Some (slice_index_or xs i x)
get_index [] i x l = absurd (omega arith)
get_index (y ∷ xs) zero x l = refl
get_index (y ∷ xs) (suc i) x l = get_index xs i x (omega arith)

pub get_map : {A B : Type 0} (f : A → B) (xs : List A) (i : ℕ) → slice_get (map f xs) i ≡ option_map f (slice_get xs i)
get_map f [] i = refl
get_map f (x ∷ xs) zero = refl
get_map f (x ∷ xs) (suc i) = get_map f xs i

pub every_next : {S T : Type 0} (f : T → ℕ) (h : S → T) (n t i : ℕ) (slots : List S) (s : S) → slice_get slots i ≡ Some s → i < length slots
    → every n t 0 (map f (map h (take (i + 1) slots))) ≡ every n t 0 (map f (map h (take i slots))) ++ cond (nat_eq (i % n) t) (f (h s) ∷ []) []
every_next {S = S} f h n t i slots s e l =
    ap (λ xs. every n t 0 (map f (map h xs))) (take_more slots i s e)
    ∙ ap (λ xs. every n t 0 (map f xs)) (map-append h (take i slots) (s ∷ []))
    ∙ ap (every n t 0) (map-append f (map h (take i slots)) (h s ∷ []))
    ∙ every_more n t 0 (map f (map h (take i slots))) (f (h s))
    ∙ ap (λ k. every n t 0 (map f (map h (take i slots))) ++ cond (nat_eq (k % n) t) (f (h s) ∷ []) []) (count (take i slots) (length_take slots i l))
  where
    count : (xs : List S) → length xs ≡ i → 0 + length (map f (map h xs)) ≡ i
    count xs k = let a : length (map f (map h xs)) ≡ length (map h xs) = length-map f (map h xs) in let b : length (map h xs) ≡ length xs = length-map h xs in omega (arith, a, b, k)

pub drops_at : {A B : Type 0} (f : A → B) (xs : List A) (n : ℕ) (x : A) → x ≡ get_or xs n x → n < length xs → drop n (map f xs) ≡ f x ∷ drop (n + 1) (map f xs)
drops_at f [] n x e l = absurd (omega arith)
drops_at f (y ∷ xs) zero x e l = ap (λ z. f z ∷ map f xs) (sym e)
drops_at f (y ∷ xs) (suc n) x e l = let k : suc n + 1 ≡ suc (n + 1) = omega arith in drops_at f xs n x e (omega arith) ∙ ap (λ j. f x ∷ drop j (f y ∷ map f xs)) (sym k)
