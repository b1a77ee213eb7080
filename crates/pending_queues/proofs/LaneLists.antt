-- Lists of blocks by their positions, and sums over views.
use Rattle.std.proofs.Common.{◌≡◌, ◌≢◌, ℕ, zero, suc, ◌+◌, ◌≤◌, ◌==◌, Some, List, [], ◌∷◌, ◌++◌, All, length, set, nat_lt, slice_get, if◌then◌else◌, refl, sym, ap, ◌∙◌, ◌⊎◌, inl, inr, ⊎_elim, eq-eqb, ne_eqb, arith}
use Rattle.std.proofs.lemmas.List.Elements.{All-push}
use Rattle.std.proofs.lemmas.List.Sums.{sum_by-append}
use Rattle.std.proofs.lemmas.Bool.Decides.{nat_tests}
use mathlib.Core.Option.{some, some-injective, some-ne-none}
use mathlib.Core.Logic.{dite}
use native.Mathlib.Decide.{ℕ_discrete}
use lib.ListN.{get_elem?}
use Rattle.model.specs.Total.{total, one_if}
use Rattle.model.proofs.Totals.{total-set, total-snoc, total-at}
use Rattle.block_pool.specs.BlockValue.{BlockValue}
use Rattle.pending_queues.specs.Labelled.{is_label, times_at}
use Rattle.pending_queues.specs.PassValue.{position_of}
use Rattle.pending_queues.specs.LaneRule.{StandsIn}

module _ {A : Type 0} where
  pub get_longer : (xs ys : List A) (k : ℕ) (x : A) → slice_get xs k ≡ Some x → slice_get (xs ++ ys) k ≡ Some x
  get_longer [] ys k x e = absurd (cc)
  get_longer (a ∷ xs) ys zero x e = e
  get_longer (a ∷ xs) ys (suc k) x e = get_longer xs ys k x e

  pub get_middle : (xs ys : List A) (x : A) → slice_get (xs ++ x ∷ ys) (length xs) ≡ Some x
  get_middle [] ys x = refl
  get_middle (a ∷ xs) ys x = get_middle xs ys x

  pub get_snoc : (xs : List A) (x y : A) (k : ℕ) → slice_get (xs ++ x ∷ []) k ≡ Some y → (slice_get xs k ≡ Some y) ⊎ ((k ≡ length xs) × (x ≡ y))
  get_snoc [] x y zero e = let is : x ≡ y = cc in inr (refl, is)
  get_snoc [] x y (suc k) e = absurd (cc)
  get_snoc (a ∷ xs) x y zero e = inl e
  get_snoc (a ∷ xs) x y (suc k) e = ⊎_elim (λ t. inl t) (λ t. inr (ap suc t.0, t.1)) (get_snoc xs x y k e)

-- one more block behind those that stand in the list
pub stand_grown : (front : List BlockValue) (x : BlockValue) (taken : List BlockValue) → All (StandsIn front) taken → All (StandsIn (front ++ x ∷ [])) taken
stand_grown front x taken all k d low = get_longer front (x ∷ []) _ _ (all k d low)

pub stand_more : (front : List BlockValue) (x : BlockValue) (taken : List BlockValue) → position_of x ≡ length front → All (StandsIn front) taken → All (StandsIn (front ++ x ∷ [])) (taken ++ x ∷ [])
stand_more front x taken pos all =
    let here : StandsIn (front ++ x ∷ []) x = ap (slice_get (front ++ x ∷ [])) pos ∙ get_middle front [] x in
    All-push (StandsIn (front ++ x ∷ [])) taken x (stand_grown front x taken all) here

pub times_append : (exporter position : ℕ) (xs ys : List BlockValue) → times_at exporter position (xs ++ ys) ≡ times_at exporter position xs + times_at exporter position ys
times_append exporter position xs ys = sum_by-append (λ (b : BlockValue). if is_label exporter position b.sent then 1 else 0) xs ys

-- a block counts at the position on its label alone
pub times_one : (exporter position at : ℕ) (x : BlockValue) → x.sent ≡ Some (exporter, at) → times_at exporter position (x ∷ []) ≡ one_if (at == position)
times_one exporter position at x e = rw (e, eq-eqb exporter exporter refl) (dite (ℕ_discrete at position)
    (λ is. rw (eq-eqb at position is) refl)
    (λ ne. rw (ne_eqb at position ne) refl))

pub none_below : (position : ℕ) → one_if (nat_lt position 0) ≡ 0
none_below position = grind (arith, nat_tests)

pub one_more : (position m n : ℕ) → n ≡ m + 1 → one_if (nat_lt position n) ≡ one_if (nat_lt position m) + one_if (m == position)
one_more position m n is = grind (arith, nat_tests)

module _ {V : Type 0} (f : V → ℕ) where
  pub total-fork : (views : List V) (i : ℕ) (v l r : V) → get_elem? views i ≡ some v → f l + f r ≡ f v → total f (set views i l ++ r ∷ []) ≡ total f views
  total-fork views i v l r at is = let s = total-set f views i v l at in let t = total-snoc f (set views i l) r in omega arith

  pub total-merge : (views : List V) (i j : ℕ) (v w b s : V) → get_elem? views i ≡ some v → get_elem? (set views i b) j ≡ some w → f b ≡ f v + f w → f s ≡ 0 → total f (set (set views i b) j s) ≡ total f views
  total-merge views i j v w b s at at' is none = let e = total-set f views i v b at in let t = total-set f (set views i b) j w s at' in omega arith

  -- two views are no more than all
  pub total-two : (views : List V) (i j : ℕ) (v u : V) → j ≢ i → get_elem? views i ≡ some v → get_elem? views j ≡ some u → f v + f u ≤ total f views
  total-two [] i j v u apart at at' = absurd (some-ne-none v (sym at))
  total-two (x ∷ xs) zero zero v u apart at at' = absurd (apart refl)
  total-two (x ∷ xs) zero (suc j) v u apart at at' = let s : f x ≡ f v = ap f (some-injective x v at) in let t = total-at f xs j u at' in omega arith
  total-two (x ∷ xs) (suc i) zero v u apart at at' = let s : f x ≡ f u = ap f (some-injective x u at') in let t = total-at f xs i v at in omega arith
  total-two (x ∷ xs) (suc i) (suc j) v u apart at at' = let t = total-two xs i j v u (λ e. apart (ap suc e)) at at' in omega arith
