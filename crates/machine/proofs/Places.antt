-- Lists of which one place changes.
use Rattle.std.proofs.Common.{◌≡◌, ◌≢◌, ℕ, zero, suc, ◌+◌, ◌<◌, Bool, true, false, cond, List, [], ◌∷◌, length, map, Some, refl, sym, ap, ◌∙◌, subst, arith}
use Rattle.std.specs.Prelude.{slice_get, slice_set, slice_index_or, count_by}
use Rattle.std.proofs.lemmas.List.Sums.{sum_by-cons}
use Rattle.workers.specs.Block.{updated}

-- what the mapped list has at a place comes from what the list has there
pub found : {A B : Type 0} (f : A → B) (xs : List A) (i : ℕ) (y : B) → slice_get (map f xs) i ≡ Some y → (x : A) × ((slice_get xs i ≡ Some x) × (y ≡ f x))
found f [] i y e = absurd (cc)
found f (x ∷ xs) zero y e = (x, (refl, (let q : f x ≡ y = cc in sym q)))
found f (x ∷ xs) (suc i) y e = found f xs i y e

pub get-map : {A B : Type 0} (f : A → B) (xs : List A) (i : ℕ) (x : A) → slice_get xs i ≡ Some x → slice_get (map f xs) i ≡ Some (f x)
get-map f [] i x e = absurd (cc)
get-map f (z ∷ zs) zero x e = let q : z ≡ x = cc in ap (λ y. Some (f y)) q
get-map f (z ∷ zs) (suc i) x e = get-map f zs i x e

pub get-within : {A : Type 0} (xs : List A) (i : ℕ) (x : A) → slice_get xs i ≡ Some x → i < length xs
get-within [] i x e = absurd (cc)
get-within (z ∷ zs) zero x e = omega arith
get-within (z ∷ zs) (suc i) x e = let l = get-within zs i x e in omega (arith, l)

pub get-there : {A : Type 0} (xs : List A) (i : ℕ) → i < length xs → (x : A) × (slice_get xs i ≡ Some x)
get-there [] i l = absurd (omega (arith, l))
get-there (x ∷ xs) zero l = (x, refl)
get-there (x ∷ xs) (suc i) l = get-there xs i (omega (arith, l))

-- what holds of each element by its place lasts where one place changes
pub set-each : {A : Type 0} (P : ℕ → A → Type 0) (xs : List A) (t : ℕ) (y : A) → ((i : ℕ) (x : A) → slice_get xs i ≡ Some x → P i x) → P t y → (i : ℕ) (x : A) → slice_get (slice_set xs t y) i ≡ Some x → P i x
set-each P [] t y each p i x e = absurd (cc)
set-each P (z ∷ zs) zero y each p zero x e = let q : y ≡ x = cc in subst (P 0) q p
set-each P (z ∷ zs) zero y each p (suc i) x e = each (suc i) x e
set-each P (z ∷ zs) (suc t) y each p zero x e = each 0 x e
set-each P (z ∷ zs) (suc t) y each p (suc i) x e = set-each (λ j. P (suc j)) zs t y (λ j. each (suc j)) p i x e

pub get-set : {A : Type 0} (xs : List A) (t : ℕ) (x y : A) → slice_get xs t ≡ Some x → slice_get (slice_set xs t y) t ≡ Some y
get-set [] t x y e = absurd (cc)
get-set (z ∷ zs) zero x y e = refl
get-set (z ∷ zs) (suc t) x y e = get-set zs t x y e

pub get-set_other : {A : Type 0} (xs : List A) (t i : ℕ) (y : A) → i ≢ t → slice_get (slice_set xs t y) i ≡ slice_get xs i
get-set_other [] t i y ne = refl
get-set_other (z ∷ zs) zero zero y ne = absurd (ne refl)
get-set_other (z ∷ zs) zero (suc i) y ne = refl
get-set_other (z ∷ zs) (suc t) zero y ne = refl
get-set_other (z ∷ zs) (suc t) (suc i) y ne = get-set_other zs t i y (λ e. ne (ap suc e))

pub length-set : {A : Type 0} (xs : List A) (t : ℕ) (y : A) → length (slice_set xs t y) ≡ length xs
length-set [] t y = refl
length-set (x ∷ xs) zero y = refl
length-set (x ∷ xs) (suc t) y = ap suc (length-set xs t y)

pub length-map : {A B : Type 0} (f : A → B) (xs : List A) → length (map f xs) ≡ length xs
length-map f [] = refl
length-map f (x ∷ xs) = ap suc (length-map f xs)

pub map-set : {A B : Type 0} (f : A → B) (xs : List A) (t : ℕ) (y : A) → map f (slice_set xs t y) ≡ slice_set (map f xs) t (f y)
map-set f [] t y = refl
map-set f (x ∷ xs) zero y = refl
map-set f (x ∷ xs) (suc t) y = ap (λ zs. f x ∷ zs) (map-set f xs t y)

-- the new element looks as the old one did
pub map-set_same : {A B : Type 0} (f : A → B) (xs : List A) (t : ℕ) (x y : A) → slice_get xs t ≡ Some x → f y ≡ f x → map f (slice_set xs t y) ≡ map f xs
map-set_same f [] t x y e s = refl
map-set_same f (z ∷ zs) zero x y e s = let q : z ≡ x = cc in ap (λ b. b ∷ map f zs) (s ∙ ap f (sym q))
map-set_same f (z ∷ zs) (suc t) x y e s = ap (λ bs. f z ∷ bs) (map-set_same f zs t x y e s)

pub set-again : {A : Type 0} (xs : List A) (t : ℕ) (x : A) → slice_get xs t ≡ Some x → slice_set xs t x ≡ xs
set-again [] t x e = refl
set-again (z ∷ zs) zero x e = let q : z ≡ x = cc in ap (λ y. y ∷ zs) (sym q)
set-again (z ∷ zs) (suc t) x e = ap (λ ys. z ∷ ys) (set-again zs t x e)

pub updated-set : {A : Type 0} (f : A → A) (xs : List A) (t : ℕ) (x : A) → slice_get xs t ≡ Some x → updated f xs t ≡ slice_set xs t (f x)
updated-set f [] t x e = refl
updated-set f (z ∷ zs) zero x e = let q : z ≡ x = cc in ap (λ y. f y ∷ zs) q
updated-set f (z ∷ zs) (suc t) x e = ap (λ ys. z ∷ ys) (updated-set f zs t x e)

pub index-or : {A : Type 0} (xs : List A) (t : ℕ) (x d : A) → slice_get xs t ≡ Some x → slice_index_or xs t d ≡ x
index-or [] t x d e = absurd (cc)
index-or (z ∷ zs) zero x d e = let q : z ≡ x = cc in q
index-or (z ∷ zs) (suc t) x d e = index-or zs t x d e

pub index-set : {A : Type 0} (xs : List A) (t : ℕ) (y d : A) → t < length xs → slice_index_or (slice_set xs t y) t d ≡ y
index-set [] t y d l = absurd (omega (arith, l))
index-set (z ∷ zs) zero y d l = refl
index-set (z ∷ zs) (suc t) y d l = index-set zs t y d (omega (arith, l))

bit : Bool → ℕ
bit b = cond b 1 0

count-more : {A : Type 0} (p : A → Bool) (x : A) (xs : List A) → count_by p (x ∷ xs) ≡ bit (p x) + count_by p xs
unfolding bit
count-more p x xs = sum_by-cons (λ y. cond (p y) 1 0) x xs

bit-set : (b : Bool) → b ≡ true → bit b ≡ 1
unfolding bit
bit-set b e = ap (λ x. cond x 1 0) e

bit-unset : (b : Bool) → b ≡ false → bit b ≡ 0
unfolding bit
bit-unset b e = ap (λ x. cond x 1 0) e

-- one more passes the test, or one less
pub count-raised : {A : Type 0} (p : A → Bool) (xs : List A) (t : ℕ) (x y : A) → slice_get xs t ≡ Some x → p x ≡ false → p y ≡ true → count_by p (slice_set xs t y) ≡ count_by p xs + 1
count-raised p [] t x y e f g = absurd (cc)
count-raised p (z ∷ zs) zero x y e f g =
    let q : z ≡ x = cc in
    omega (arith, count-more p z zs, count-more p y zs, bit-unset (p z) (ap p q ∙ f), bit-set (p y) g)
count-raised p (z ∷ zs) (suc t) x y e f g = omega (arith, count-more p z zs, count-more p z (slice_set zs t y), count-raised p zs t x y e f g)

pub count-lowered : {A : Type 0} (p : A → Bool) (xs : List A) (t : ℕ) (x y : A) → slice_get xs t ≡ Some x → p x ≡ true → p y ≡ false → count_by p (slice_set xs t y) + 1 ≡ count_by p xs
count-lowered p [] t x y e f g = absurd (cc)
count-lowered p (z ∷ zs) zero x y e f g =
    let q : z ≡ x = cc in
    omega (arith, count-more p z zs, count-more p y zs, bit-set (p z) (ap p q ∙ f), bit-unset (p y) g)
count-lowered p (z ∷ zs) (suc t) x y e f g = omega (arith, count-more p z zs, count-more p z (slice_set zs t y), count-lowered p zs t x y e f g)

pub count-same : {A : Type 0} (p : A → Bool) (xs : List A) (t : ℕ) (x y : A) → slice_get xs t ≡ Some x → p y ≡ p x → count_by p (slice_set xs t y) ≡ count_by p xs
count-same p [] t x y e s = refl
count-same p (z ∷ zs) zero x y e s =
    let q : z ≡ x = cc in
    let n : bit (p y) ≡ bit (p z) = ap bit (s ∙ ap p (sym q)) in
    omega (arith, count-more p z zs, count-more p y zs, n)
count-same p (z ∷ zs) (suc t) x y e s = omega (arith, count-more p z zs, count-more p z (slice_set zs t y), count-same p zs t x y e s)
