-- A list is taken apart, element by element.
use Rattle.std.proofs.Common.{◌≡◌, ℕ, zero, suc, ◌+◌, List, [], ◌∷◌, ◌++◌, All, length, map, Some, sym, ap, subst, ◌∙◌, arith, append_assoc}
use Rattle.std.proofs.lemmas.List.{append-nil}
use Rattle.std.proofs.lemmas.List.Elements.{All-nil, All-cons}
use Rattle.std.specs.Prelude.{slice_get}
use Rattle.std.specs.List.{range_with_len}
use Rattle.forwarding.specs.Passes.{AtEach}
use Rattle.workers_in_threads.proofs.Lists.{all_each, each_get}

module _ {X Y : Type 0} (f : X → Y) where
  pub begun : (done : List Y) (rest all : List X) → done ≡ [] → rest ≡ all → done ++ map f rest ≡ map f all
  begun done rest all none is = ap (λ d. d ++ map f rest) none ∙ ap (map f) is

  pub moved : (done : List Y) (x : X) (rest old all : List X) → old ≡ x ∷ rest → done ++ map f old ≡ map f all → (done ++ f x ∷ []) ++ map f rest ≡ map f all
  moved done x rest old all is h = append_assoc done (f x ∷ []) (map f rest) ∙ ap (λ xs. done ++ map f xs) (sym is) ∙ h

  pub finished : (done : List Y) (rest all : List X) → length rest ≡ 0 → done ++ map f rest ≡ map f all → done ≡ map f all
  finished done [] all none h = sym (append-nil done) ∙ h
  finished done (x ∷ rest) all none h = absurd (omega (arith, none))

some_is : {X : Type 0} {x y : X} → Some x ≡ Some y → x ≡ y
some_is e = cc

-- the last of a list that all is of, and the others
module _ {X : Type 0} (F : X → Type 0) where
  last : (xs : List X) (x : X) → All F (xs ++ x ∷ []) → F x
  last [] x h = h 0 x (omega arith)
  last (y ∷ xs) x h = last xs x (λ k d lt. h (suc k) d (omega (arith, lt)))

  others : (xs : List X) (x : X) → All F (xs ++ x ∷ []) → All F xs
  others [] x h = All-nil F
  others (y ∷ xs) x h = All-cons F y xs (h 0 y (omega arith)) (others xs x (λ k d lt. h (suc k) d (omega (arith, lt))))

  pub popped : (old new : List X) (x : X) → old ≡ new ++ x ∷ [] → All F old → F x
  popped old new x is h = last new x (subst (All F) is h)

  pub left : (old new : List X) (x : X) → old ≡ new ++ x ∷ [] → All F old → All F new
  left old new x is h = others new x (subst (All F) is h)

pub one_less : {X : Type 0} (old new : List X) (x : X) → old ≡ new ++ x ∷ [] → length new + 1 ≡ length old
one_less old new x is = by new ∙ sym (ap length is)
  where
    by : (ys : List _) → length ys + 1 ≡ length (ys ++ x ∷ [])
    by [] = omega arith
    by (y ∷ ys) = let r = by ys in omega (arith, r)

-- what holds of each at its place, and of all
pub both : {X : Type 0} (F : ℕ → X → Type 0) (G : X → Type 0) (xs : List X) → AtEach F xs → All G xs → AtEach (λ i x. F i x × G x) xs
both F G xs h k i x e = (h i x e, each_get G xs i x (all_each G xs k) e)

-- so many, numbered from 0
pub numbered_at : {X : Type 0} (f : ℕ → X) (n : ℕ) (xs : List X) → xs ≡ map f (range_with_len 0 n) → AtEach (λ i x. x ≡ f i) xs
numbered_at {X} f n xs is i x e = (let z : 0 + i ≡ i = omega arith in from 0 n i x (ap (λ ys. slice_get ys i) (sym is) ∙ e) ∙ ap f z)
  where
    from : (a m j : ℕ) (y : X) → slice_get (map f (range_with_len a m)) j ≡ Some y → y ≡ f (a + j)
    from a zero j y e = absurd (cc)
    from a (suc m) zero y e = let z : a ≡ a + 0 = omega arith in sym (some_is e) ∙ ap f z
    from a (suc m) (suc j) y e = let z : a + 1 + j ≡ a + suc j = omega arith in from (a + 1) m j y e ∙ ap f z
