-- What was drawn and what is free add up.
use Rattle.std.proofs.Common.{◌≡◌, ℕ, ◌+◌, ◌<◌, ◌≤◌, Bool, true, false, not, List, [], ◌∷◌, ◌++◌, Option, Some, refl, ap, set, cond, arith, nat_eq, eqb-true, Contains}
use Rattle.std.specs.Prelude.{slice_get}
use Rattle.std.specs.Bool.{OnTrue}
use Rattle.workers.specs.Setting.{Setting}
use Rattle.workers.specs.WorkerSteps.{draw_wanted}
use Rattle.workers.specs.WorkerRun.{Act, Looked, noted}
use Rattle.workers.specs.System.{without_number}
use Rattle.workers.specs.Total.{total, one_if, times}
use Rattle.workers.specs.Joined.{Part}
use Rattle.workers.proofs.Totals.{total-push}
use Rattle.workers.proofs.SystemParts.{acted, total-set, member-times}

-- whatever each number weighs, what left one list went into the other
abbrev pub Spends : List ℕ → List ℕ → List Part → List Part → Type 0
Spends free free' parts parts' = (f : ℕ → ℕ) → total (λ (p : Part). total f p.history.drawn) parts' + total f free' ≡ total (λ (p : Part). total f p.history.drawn) parts + total f free

module _ (f : ℕ → ℕ) (n : ℕ) where
  without-none : (xs : List ℕ) → times n xs ≡ 0 → total f (without_number n xs) ≡ total f xs
  without-none [] e = refl
  without-none (x ∷ xs) e = go (nat_eq x n) refl (without-none xs (omega arith))
    where
      go : (b : Bool) → nat_eq x n ≡ b → total f (without_number n xs) ≡ total f xs → total f (cond (not b) (x ∷ without_number n xs) (without_number n xs)) ≡ f x + total f xs
      go true q h = let o : one_if (nat_eq x n) ≡ 1 = ap one_if q in absurd (omega arith)
      go false q h = ap (λ m. f x + m) h

  without-once : (xs : List ℕ) → times n xs ≡ 1 → total f (without_number n xs) + f n ≡ total f xs
  without-once [] e = absurd (omega arith)
  without-once (x ∷ xs) e = go (nat_eq x n) refl (without-once xs)
    where
      go : (b : Bool) → nat_eq x n ≡ b → (times n xs ≡ 1 → total f (without_number n xs) + f n ≡ total f xs) → total f (cond (not b) (x ∷ without_number n xs) (without_number n xs)) + f n ≡ f x + total f xs
      go true q rest =
          let o : one_if (nat_eq x n) ≡ 1 = ap one_if q in
          let h : total f (without_number n xs) ≡ total f xs = without-none xs (omega arith) in
          let s : f x ≡ f n = ap f (eqb-true x n q) in
          omega arith
      go false q rest =
          let o : one_if (nat_eq x n) ≡ 0 = ap one_if q in
          let h : total f (without_number n xs) + f n ≡ total f xs = rest (omega arith) in
          omega arith

module _ (setting : Setting) (parts : List Part) (t : ℕ) (p : Part) (there : slice_get parts t ≡ Some p) where
  pub spends_none : (act : Act) (free free' : List ℕ) → (noted setting p.final act p.history).drawn ≡ p.history.drawn → free' ≡ free → Spends free free' parts (set parts t (acted setting p act))
  spends_none act free free' e q f =
      let x : total (λ (r : Part). total f r.history.drawn) (set parts t (acted setting p act)) + total f p.history.drawn ≡ total (λ (r : Part). total f r.history.drawn) parts + total f (noted setting p.final act p.history).drawn = total-set (λ (r : Part). total f r.history.drawn) parts t p (acted setting p act) there in
      let y : total f (noted setting p.final act p.history).drawn ≡ total f p.history.drawn = ap (total f) e in
      let z : total f free' ≡ total f free = ap (total f) q in
      omega arith

  pub spends_look : (cell : Option ℕ) (number : ℕ) (free : List ℕ) → ((k : ℕ) → times k free ≤ 1) → OnTrue (draw_wanted setting p.final cell) (Contains free number)
      → Spends free (cond (draw_wanted setting p.final cell) (without_number number free) free) parts (set parts t (acted setting p (Looked cell number)))
  spends_look cell number free once c f = go (draw_wanted setting p.final cell) c _ (total-set (λ (r : Part). total f r.history.drawn) parts t p (acted setting p (Looked cell number)) there)
    where
      go : (b : Bool) → OnTrue b (Contains free number) → (n : ℕ) → n + total f p.history.drawn ≡ total (λ (r : Part). total f r.history.drawn) parts + total f (cond b (p.history.drawn ++ number ∷ []) p.history.drawn)
          → n + total f (cond b (without_number number free) free) ≡ total (λ (r : Part). total f r.history.drawn) parts + total f free
      go false c n e = omega arith
      go true c n e =
          let a : total f (p.history.drawn ++ number ∷ []) ≡ total f p.history.drawn + f number = total-push f p.history.drawn number in
          let l : 0 < times number free = member-times free number c.0 c.1 c.2 in
          let o = once number in
          let w : total f (without_number number free) + f number ≡ total f free = without-once f number free (omega arith) in
          omega arith
