-- Lists and their places.
use Rattle.std.proofs.Common.{◌≡◌, ◌≢◌, ℕ, zero, suc, ◌<◌, Bool, true, false, List, [], ◌∷◌, ◌++◌, Option, Some, None, refl, sym, ap, subst, ◌∙◌, ⊎_elim, set, cond, length, arith}
use Rattle.std.proofs.lemmas.Bool.{cases_eq}
use Rattle.std.specs.Prelude.{slice_get}
use Rattle.std.specs.Option.{option_and_then, option_map}
use Rattle.workers.specs.Block.{updated}
pub use Rattle.workers.specs.Joined.{Each, OnSome}

pub Each-append : {A : Type 0} (P : A → Type 0) (xs ys : List A) → Each P xs → Each P ys → Each P (xs ++ ys)
Each-append P [] ys h k = k
Each-append P (x ∷ xs) ys h k = (h.0, Each-append P xs ys h.1 k)

pub Each-left : {A : Type 0} (P : A → Type 0) (xs ys : List A) → Each P (xs ++ ys) → Each P xs
Each-left P [] ys h = tt
Each-left P (x ∷ xs) ys h = (h.0, Each-left P xs ys h.1)

pub Each-right : {A : Type 0} (P : A → Type 0) (xs ys : List A) → Each P (xs ++ ys) → Each P ys
Each-right P [] ys h = h
Each-right P (x ∷ xs) ys h = Each-right P xs ys h.1

pub Each-updated : {A : Type 0} (P : A → Type 0) (f : A → A) → ((x : A) → P x → P (f x)) → (xs : List A) (i : ℕ) → Each P xs → Each P (updated f xs i)
Each-updated P f k [] i h = h
Each-updated P f k (x ∷ xs) zero h = (k x h.0, h.1)
Each-updated P f k (x ∷ xs) (suc i) h = (h.0, Each-updated P f k xs i h.1)

pub Each-set : {A : Type 0} (P : A → Type 0) (xs : List A) (i : ℕ) (x : A) → P x → Each P xs → Each P (set xs i x)
Each-set P [] i x p h = h
Each-set P (y ∷ xs) zero x p h = (p, h.1)
Each-set P (y ∷ xs) (suc i) x p h = (h.0, Each-set P xs i x p h.1)

pub Each-get : {A : Type 0} (P : A → Type 0) (xs : List A) (i : ℕ) → Each P xs → OnSome P (slice_get xs i)
Each-get P [] i h = tt
Each-get P (x ∷ xs) zero h = h.0
Each-get P (x ∷ xs) (suc i) h = Each-get P xs i h.1

pub Each-at : {A : Type 0} (P : A → Type 0) (xs : List A) (i : ℕ) (x : A) → slice_get xs i ≡ Some x → Each P xs → P x
Each-at P xs i x e h = subst (OnSome P) e (Each-get P xs i h)

pub Each-map : {A : Type 0} (P Q : A → Type 0) → ((x : A) → P x → Q x) → (xs : List A) → Each P xs → Each Q xs
Each-map P Q k [] h = tt
Each-map P Q k (x ∷ xs) h = (k x h.0, Each-map P Q k xs h.1)

pub either : {A : Type 0} (P : A → Type 0) (b : Bool) (x y : A) → P x → P y → P (cond b x y)
either P true x y p q = p
either P false x y p q = q

pub none-some : {A : Type 0} {x : A} → None ≡ Some x → ⊥
none-some e = cc

-- a list of optional things, by place
abbrev pub at : {A : Type 0} → List (Option A) → ℕ → Option A
at xs d = option_and_then (λ b. b) (slice_get xs d)

abbrev pub mapped : {A : Type 0} → (A → A) → Option A → Option A
mapped f b = option_and_then (λ x. Some (f x)) b

pub at-updated_same : {A : Type 0} (f : A → A) (xs : List (Option A)) (d : ℕ) → at (updated (mapped f) xs d) d ≡ mapped f (at xs d)
at-updated_same f [] d = refl
at-updated_same f (x ∷ xs) zero = refl
at-updated_same f (x ∷ xs) (suc d) = at-updated_same f xs d

pub at-updated_other : {A : Type 0} (f : A → A) (xs : List (Option A)) (d e : ℕ) → e ≢ d → at (updated (mapped f) xs d) e ≡ at xs e
at-updated_other f [] d e n = refl
at-updated_other f (x ∷ xs) zero zero n = absurd (n refl)
at-updated_other f (x ∷ xs) zero (suc e) n = refl
at-updated_other f (x ∷ xs) (suc d) zero n = refl
at-updated_other f (x ∷ xs) (suc d) (suc e) n = at-updated_other f xs d e (λ p. n (ap suc p))

-- what was set stands there, if something did
pub at-set_same : {A : Type 0} (xs : List (Option A)) (d : ℕ) (v : Option A) (y : A) → at xs d ≡ Some y → at (set xs d v) d ≡ v
at-set_same [] d v y h = absurd (none-some h)
at-set_same (x ∷ xs) zero v y h = refl
at-set_same (x ∷ xs) (suc d) v y h = at-set_same xs d v y h

pub at-set_either : {A : Type 0} (P : Option A → Type 0) (xs : List (Option A)) (d : ℕ) (v : Option A) → P v → P None → P (at (set xs d v) d)
at-set_either P [] d v p q = q
at-set_either P (x ∷ xs) zero v p q = p
at-set_either P (x ∷ xs) (suc d) v p q = at-set_either P xs d v p q

pub at-set_other : {A : Type 0} (xs : List (Option A)) (d e : ℕ) (v : Option A) → e ≢ d → at (set xs d v) e ≡ at xs e
at-set_other [] d e v n = refl
at-set_other (x ∷ xs) zero zero v n = absurd (n refl)
at-set_other (x ∷ xs) zero (suc e) v n = refl
at-set_other (x ∷ xs) (suc d) zero v n = refl
at-set_other (x ∷ xs) (suc d) (suc e) v n = at-set_other xs d e v (λ p. n (ap suc p))

pub length-updated : {A : Type 0} (f : A → A) (xs : List A) (i : ℕ) → length (updated f xs i) ≡ length xs
length-updated f [] i = refl
length-updated f (x ∷ xs) zero = refl
length-updated f (x ∷ xs) (suc i) = ap suc (length-updated f xs i)

pub get-updated : {A : Type 0} (f : A → A) (xs : List A) (i : ℕ) → slice_get (updated f xs i) i ≡ option_map f (slice_get xs i)
get-updated f [] i = refl
get-updated f (x ∷ xs) zero = refl
get-updated f (x ∷ xs) (suc i) = get-updated f xs i

pub get-append : {A : Type 0} (xs ys : List A) (i : ℕ) → i < length xs → slice_get (xs ++ ys) i ≡ slice_get xs i
get-append [] ys i h = absurd (omega arith)
get-append (x ∷ xs) ys zero h = refl
get-append (x ∷ xs) ys (suc i) h = get-append xs ys i (omega arith)

pub get-some : {A : Type 0} (xs : List A) (i : ℕ) → i < length xs → (x : A) × (slice_get xs i ≡ Some x)
get-some [] i h = absurd (omega arith)
get-some (x ∷ xs) zero h = (x, refl)
get-some (x ∷ xs) (suc i) h = get-some xs i (omega arith)

pub length-set_any : {A : Type 0} (xs : List A) (i : ℕ) (v : A) → length (set xs i v) ≡ length xs
length-set_any [] i v = refl
length-set_any (x ∷ xs) zero v = refl
length-set_any (x ∷ xs) (suc i) v = ap suc (length-set_any xs i v)

pub get-lt : {A : Type 0} (xs : List A) (i : ℕ) (x : A) → slice_get xs i ≡ Some x → i < length xs
get-lt [] i x e = absurd (none-some e)
get-lt (y ∷ xs) zero x e = omega arith
get-lt (y ∷ xs) (suc i) x e = let h : i < length xs = get-lt xs i x e in omega arith

pub Each-at_all : {A : Type 0} (P : A → Type 0) (xs : List (Option A)) → ((d : ℕ) → OnSome P (at xs d)) → Each (OnSome P) xs
Each-at_all P [] h = tt
Each-at_all P (x ∷ xs) h = (h 0, Each-at_all P xs (λ d. h (suc d)))

pub at-Each : {A : Type 0} (P : A → Type 0) (xs : List (Option A)) (d : ℕ) (x : A) → at xs d ≡ Some x → Each (OnSome P) xs → P x
at-Each P [] d x e h = absurd (none-some e)
at-Each P (y ∷ xs) zero x e h = subst (OnSome P) e h.0
at-Each P (y ∷ xs) (suc d) x e h = at-Each P xs d x e h.1

-- one place of a list of optional things changes
pub set-at : {A : Type 0} (Q : ℕ → A → Type 0) (xs : List (Option A)) (d : ℕ) (x : A) → Q d x → ((e : ℕ) → OnSome (Q e) (at xs e)) → (e : ℕ) → OnSome (Q e) (at (set xs d (Some x)) e)
set-at Q xs d x q h e =
    ⊎_elim
    (λ (p : e ≡ d). subst (λ y. OnSome (Q y) (at (set xs d (Some x)) y)) (sym p) (at-set_either (OnSome (Q d)) xs d (Some x) q tt))
    (λ (n : e ≢ d). subst (OnSome (Q e)) (sym (at-set_other xs d e (Some x) n)) (h e))
    (cases_eq e d)

pub updated-at : {A : Type 0} (Q : ℕ → A → Type 0) (xs : List (Option A)) (d : ℕ) (x : A) (g : A → A) → at xs d ≡ Some x → Q d (g x) → ((e : ℕ) → OnSome (Q e) (at xs e)) → (e : ℕ) → OnSome (Q e) (at (updated (mapped g) xs d) e)
updated-at Q xs d x g a q h e =
    ⊎_elim
    (λ (p : e ≡ d). subst (λ y. OnSome (Q y) (at (updated (mapped g) xs d) y)) (sym p) (subst (OnSome (Q d)) (sym (at-updated_same g xs d ∙ ap (mapped g) a)) q))
    (λ (n : e ≢ d). subst (OnSome (Q e)) (sym (at-updated_other g xs d e n)) (h e))
    (cases_eq e d)

pub Each-zip : {A : Type 0} (P Q : A → Type 0) (xs : List A) → Each P xs → Each Q xs → Each (λ x. P x × Q x) xs
Each-zip P Q [] h k = tt
Each-zip P Q (x ∷ xs) h k = ((h.0, k.0), Each-zip P Q xs h.1 k.1)

pub at-none : {A : Type 0} (xs : List (Option A)) → Each (λ b. b ≡ None) xs → (d : ℕ) → at xs d ≡ None
at-none [] h d = refl
at-none (x ∷ xs) h zero = h.0
at-none (x ∷ xs) h (suc d) = at-none xs h.1 d

pub none-OnSome : {A : Type 0} (P : A → Type 0) (xs : List (Option A)) → Each (λ b. b ≡ None) xs → Each (OnSome P) xs
none-OnSome P [] h = tt
none-OnSome P (x ∷ xs) h = (subst (OnSome P) (sym h.0) tt, none-OnSome P xs h.1)
