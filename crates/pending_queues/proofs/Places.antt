-- The element at a place of a list.
use Rattle.std.proofs.Common.{◌≡◌, ◌≢◌, ◌<◌, ℕ, zero, suc, Some, List, [], ◌∷◌, ◌++◌, length, map, set, refl, sym, ap, ◌∙◌, ⊎_elim, ◌⊎◌, inl, inr, arith, option_map}
use Rattle.std.specs.List.{slice_get}
use Rattle.std.proofs.lemmas.Option.{slice_get-map}
use Rattle.std.proofs.lemmas.List.{length-map, map-set}

module _ {X : Type 0} where
  pub get-set : (xs : List X) (i j : ℕ) (v x : X) → slice_get (set xs i v) j ≡ Some x → ((j ≡ i) × (v ≡ x)) ⊎ ((j ≢ i) × (slice_get xs j ≡ Some x))
  get-set [] i j v x e = cc
  get-set (y ∷ ys) zero zero v x e = inl (refl, cc)
  get-set (y ∷ ys) zero (suc j) v x e = inr (omega arith, e)
  get-set (y ∷ ys) (suc i) zero v x e = inr (omega arith, e)
  get-set (y ∷ ys) (suc i) (suc j) v x e =
      ⊎_elim (λ (h : (j ≡ i) × (v ≡ x)). inl (ap suc h.0, h.1)) (λ (h : (j ≢ i) × (slice_get ys j ≡ Some x)). inr (let n = h.0 in omega arith, h.1)) (get-set ys i j v x e)

  pub get-set_here : (xs : List X) (i : ℕ) (p v : X) → slice_get xs i ≡ Some p → slice_get (set xs i v) i ≡ Some v
  get-set_here [] i p v e = cc
  get-set_here (y ∷ ys) zero p v e = refl
  get-set_here (y ∷ ys) (suc i) p v e = get-set_here ys i p v e

  pub set-same : (xs : List X) (i : ℕ) (p : X) → slice_get xs i ≡ Some p → set xs i p ≡ xs
  set-same [] i p e = cc
  set-same (y ∷ ys) zero p e = cc
  set-same (y ∷ ys) (suc i) p e = ap (λ l. y ∷ l) (set-same ys i p e)

  pub get-snoc : (xs : List X) (v x : X) (j : ℕ) → slice_get (xs ++ v ∷ []) j ≡ Some x → (slice_get xs j ≡ Some x) ⊎ ((j ≡ length xs) × (v ≡ x))
  get-snoc [] v x zero e = inr (refl, cc)
  get-snoc [] v x (suc j) e = cc
  get-snoc (y ∷ ys) v x zero e = inl e
  get-snoc (y ∷ ys) v x (suc j) e = ⊎_elim (λ h. inl h) (λ (h : (j ≡ length ys) × (v ≡ x)). inr (ap suc h.0, h.1)) (get-snoc ys v x j e)

-- what the new element has as the old one stays the same in all
pub map-kept : {X Y : Type 0} (f : X → Y) (xs : List X) (u : ℕ) (p w : X) → slice_get xs u ≡ Some p → f w ≡ f p → map f (set xs u w) ≡ map f xs
map-kept f xs u p w at same = map-set f xs u w ∙ set-same (map f xs) u (f w) (slice_get-map f xs u ∙ rw at (ap Some (sym same)))

-- two lists that agree in a field agree at a place
pub agree : {X Y Z : Type 0} (f : X → Z) (g : Y → Z) (xs : List X) (ys : List Y) (u : ℕ) (a : X) (b : Y) → map f xs ≡ map g ys → slice_get xs u ≡ Some a → slice_get ys u ≡ Some b → f a ≡ g b
agree f g xs ys u a b same at_a at_b =
    let l = slice_get-map f xs u in let r = slice_get-map g ys u in
    let e : Some (f a) ≡ Some (g b) = sym (l ∙ ap (option_map f) at_a) ∙ (ap (λ zs. slice_get zs u) same ∙ (r ∙ ap (option_map g) at_b)) in
    cc

pub some_at : {X : Type 0} (xs : List X) (u : ℕ) → u < length xs → (x : X) × (slice_get xs u ≡ Some x)
some_at [] u lt = absurd (omega arith)
some_at (x ∷ xs) zero lt = (x, refl)
some_at (x ∷ xs) (suc u) lt = some_at xs u (omega arith)

pub inside : {X : Type 0} (x y : X) → Some x ≡ Some y → x ≡ y
inside x y e = cc

-- lists with the same names are as long
pub as_long : {V L : Type 0} (f : V → L) (xs ys : List V) (names : List L) → map f xs ≡ names → map f ys ≡ names → length xs ≡ length ys
as_long f xs ys names a b = sym (length-map xs f) ∙ ap length (a ∙ sym b) ∙ length-map ys f
