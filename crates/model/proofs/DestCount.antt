-- The number of destinations, computed for each shape that a heap may have.
use Rattle.std.proofs.Common.{◌≡◌, ℕ, zero, suc, ◌+◌, ◌-◌, ◌<◌, Bool, true, false, not, ◌&&◌, ◌||◌, refl, sym, subst, arith, ⊎_elim}
use Rattle.std.proofs.lemmas.Bool.{cases_eq, eqb-true, and_parts, lt-ltb, true≢false}
use Rattle.std.specs.Prelude.{nat_eq, nat_lt}
use Rattle.std.specs.Set.{distinct_count}
use Rattle.model.specs.Destination.{Shape, dest_count}
use Rattle.model.specs.DestinationList.{is_same_step, destinations}
use Rattle.model.specs.Laws.{DestCountIsExact}

unfoldable pub holds_below : (ℕ → Bool) → ℕ → Bool
holds_below p zero = true
holds_below p (suc n) = p n && holds_below p n

pub holds_at : (p : ℕ → Bool) (n k : ℕ) → holds_below p n ≡ true → k < n → p k ≡ true
unfolding holds_below
holds_at p zero k h lt = absurd (omega arith)
holds_at p (suc n) k h lt =
    ⊎_elim
    (λ e. rw e (and_parts (p n) (holds_below p n) h).0)
    (λ ne. holds_at p n k (and_parts (p n) (holds_below p n) h).1 (omega arith))
    (cases_eq k n)

unfoldable pub shape_of : ℕ → ℕ → Shape
shape_of generations steps = record { generations = generations; steps = steps }

test : ℕ → ℕ → ℕ → Bool
test generations steps g = not (nat_lt g generations) || nat_eq (distinct_count is_same_step (destinations (shape_of generations steps) g)) (dest_count (shape_of generations steps) g)

all_tests : holds_below (λ n. holds_below (λ s. holds_below (λ g. test (n + 1) (s + 1) g) 4) 4) 4 ≡ true
unfolding holds_below test shape_of
all_tests = refl

pub tested : (b c : Bool) → (not b || c) ≡ true → b ≡ true → c ≡ true
tested true c h e = h
tested false c h e = absurd (true≢false (sym e))

pub dest_count_exact : DestCountIsExact
unfolding test shape_of
dest_count_exact shape g low high lows highs lt =
    let n : ℕ = shape.generations - 1 in
    let s : ℕ = shape.steps - 1 in
    let one : test (n + 1) (s + 1) g ≡ true = holds_at _ 4 g (holds_at _ 4 s (holds_at _ 4 n all_tests (omega arith)) (omega arith)) (omega arith) in
    let same_n : n + 1 ≡ shape.generations = omega arith in
    let same_s : s + 1 ≡ shape.steps = omega arith in
    let at : test shape.generations shape.steps g ≡ true = subst (λ k. test shape.generations k g ≡ true) same_s (subst (λ k. test k (s + 1) g ≡ true) same_n one) in
    eqb-true _ _ (tested (nat_lt g shape.generations) _ at (lt-ltb g shape.generations lt))
