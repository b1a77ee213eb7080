-- The lowest destination whose block has something to scan.
use Rattle.std.proofs.Common.{◌≡◌, ℕ, zero, suc, ◌+◌, ◌<◌, Bool, true, false, cond, List, [], ◌∷◌, length, Option, Some, None, refl, sym, ap, ◌∙◌, arith, true≢false}
use Rattle.std.specs.Prelude.{slice_get, option_and_then}
use Rattle.workers.specs.Block.{Block}
use Rattle.workers.specs.Lawful.{is_open, lowest_open}

abbrev pub open_in : List (Option Block) → ℕ → Bool
open_in os d = is_open (option_and_then (λ b. b) (slice_get os d))

pub first_open : (n : ℕ) (os : List (Option Block)) (d : ℕ) → ((e : ℕ) → e < d → open_in os e ≡ false) → open_in os d ≡ true → lowest_open n os ≡ Some (n + d)
first_open n [] d below is = absurd (true≢false (sym is))
first_open n (o ∷ os) zero below is = let z : n ≡ n + 0 = omega arith in ap (λ b. cond b (Some n) (lowest_open (n + 1) os)) is ∙ ap (λ k. Some k) z
first_open n (o ∷ os) (suc d) below is =
    let m : n + 1 + d ≡ n + suc d = omega arith in
    ap (λ b. cond b (Some n) (lowest_open (n + 1) os)) (below 0 (omega arith)) ∙ first_open (n + 1) os d (λ e l. below (suc e) (omega arith)) is ∙ ap (λ k. Some k) m

pub none_open : (n : ℕ) (os : List (Option Block)) → ((e : ℕ) → e < length os → open_in os e ≡ false) → lowest_open n os ≡ None
none_open n [] below = refl
none_open n (o ∷ os) below = ap (λ b. cond b (Some n) (lowest_open (n + 1) os)) (below 0 (omega arith)) ∙ none_open (n + 1) os (λ e l. below (suc e) (omega arith))

-- the place that it names is one
pub open_there : (n : ℕ) (os : List (Option Block)) (d : ℕ) → lowest_open n os ≡ Some d → (e : ℕ) × ((d ≡ n + e) × (open_in os e ≡ true))
open_there n [] d e = absurd (cc)
open_there n (o ∷ os) d e = go (is_open o) refl (λ k. open_there (n + 1) os d k)
  where
    go : (b : Bool) → is_open o ≡ b → (lowest_open (n + 1) os ≡ Some d → (i : ℕ) × ((d ≡ n + 1 + i) × (open_in os i ≡ true))) → (i : ℕ) × ((d ≡ n + i) × (open_in (o ∷ os) i ≡ true))
    go true at rest = (0, (let q : Some n ≡ Some d = sym (ap (λ x. cond x (Some n) (lowest_open (n + 1) os)) at) ∙ e in let k : n ≡ d = cc in omega (arith, k), at))
    go false at rest = let r = rest (sym (ap (λ x. cond x (Some n) (lowest_open (n + 1) os)) at) ∙ e) in (suc r.0, (omega (arith, r.1.0), r.1.1))

-- where it names none, there is none
pub none_there : (n : ℕ) (os : List (Option Block)) → lowest_open n os ≡ None → (d : ℕ) → open_in os d ≡ false
none_there n [] e d = refl
none_there n (o ∷ os) e d = go (is_open o) refl (λ k. none_there (n + 1) os k) d
  where
    go : (b : Bool) → is_open o ≡ b → (lowest_open (n + 1) os ≡ None → (i : ℕ) → open_in os i ≡ false) → (i : ℕ) → open_in (o ∷ os) i ≡ false
    go true at rest i = absurd (let q : Some n ≡ None = sym (ap (λ x. cond x (Some n) (lowest_open (n + 1) os)) at) ∙ e in cc)
    go false at rest zero = at
    go false at rest (suc i) = rest (sym (ap (λ x. cond x (Some n) (lowest_open (n + 1) os)) at) ∙ e) i
