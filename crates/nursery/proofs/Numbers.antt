-- Numbers from one on that pass a test.
use Rattle.std.proofs.Common.{◌≡◌, ◌≢◌, ℕ, ◌+◌, ◌<◌, ◌≤◌, Bool, true, false, ◌||◌, ◌&&◌, List, [], ◌∷◌, ◌++◌, refl, sym, ap, ◌∙◌, arith, ⊎_elim}
use Rattle.std.proofs.lemmas.Bool.{cases_eq, cases_lt, true≢false, eq-eqb, ne_eqb}
use Rattle.std.proofs.lemmas.Bool.Decides.{nat_tests}
use Rattle.std.proofs.lemmas.Map.Keys.{IsDistinct-push}
use Rattle.std.specs.Prelude.{nat_eq, nat_le, nat_lt}
use Rattle.std.specs.Cmp.{nat_eq_equiv}
use Rattle.std.specs.List.{IsDistinct}
use Rattle.model.specs.Reached.{has}
use Rattle.nursery.proofs.Areas.{has-push}
use Rattle.nursery.proofs.Installing.{none_distinct}

-- the numbers from the first on, and below the end, that pass
pub record HasNumbers (p : ℕ → Bool) (from end : ℕ) (numbers : List ℕ) : Type 0 where
  pub each : (n : ℕ) → has numbers n ≡ ((nat_le from n && nat_lt n end) && p n)
  pub once : IsDistinct nat_eq numbers

module _ (p : ℕ → Bool) (from : ℕ) where
  pub no_numbers : HasNumbers p from from []
  no_numbers = record {
    each = λ n. sym (ap (λ t. t && p n) (none n));
    once = none_distinct;
  }
    where
      none : (n : ℕ) → (nat_le from n && nat_lt n from) ≡ false
      none n = grind (arith, nat_tests)

  module _ (end : ℕ) (numbers : List ℕ) (so_far : HasNumbers p from end numbers) where
    same_below : (n : ℕ) → n ≢ end → (nat_le from n && nat_lt n end) ≡ (nat_le from n && nat_lt n (end + 1))
    same_below n ne = grind (arith, nat_tests, ne)

    at_end : (nat_le from end && nat_lt end end) ≡ false
    at_end = grind (arith, nat_tests)

    pub skip_number : p end ≡ false → HasNumbers p from (end + 1) numbers
    skip_number fails = record {
      each = λ n. so_far.each n ∙ ⊎_elim
          (λ e. let none : p n ≡ false = ap p e ∙ fails in rw none (and_false (nat_le from n && nat_lt n end) ∙ sym (and_false (nat_le from n && nat_lt n (end + 1)))))
          (λ ne. ap (λ t. t && p n) (same_below n ne))
          (cases_eq n end);
      once = so_far.once;
    }
      where
        and_false : (b : Bool) → (b && false) ≡ false
        and_false true = refl
        and_false false = refl

    pub push_number : from ≤ end → p end ≡ true → HasNumbers p from (end + 1) (numbers ++ end ∷ [])
    push_number low holds = record {
      each = λ n. has-push numbers end n ∙ ⊎_elim
          (λ e.
          let here : nat_eq n end ≡ true = eq-eqb n end e in
          let passes : p n ≡ true = ap p e ∙ holds in
          let within : (nat_le from n && nat_lt n (end + 1)) ≡ true = grind (arith, nat_tests, low, e) in
          rw (here, passes, within) (or_true (has numbers n)))
          (λ ne. rw (ne_eqb n end ne) (or_false (has numbers n) ∙ so_far.each n ∙ ap (λ t. t && p n) (same_below n ne)))
          (cases_eq n end);
      once = IsDistinct-push nat_eq_equiv numbers end so_far.once (so_far.each end ∙ ap (λ t. t && p end) at_end);
    }
      where
        or_true : (b : Bool) → (b || true) ≡ true
        or_true true = refl
        or_true false = refl

        or_false : (b : Bool) → (b || false) ≡ b
        or_false true = refl
        or_false false = refl

  -- none of those up to a number passes
  pub skip_to : (end number : ℕ) (numbers : List ℕ) → HasNumbers p from end numbers → end ≤ number → ((n : ℕ) → end ≤ n → n < number → p n ≡ false) → HasNumbers p from number numbers
  skip_to end number numbers so_far le none = record {
    each = λ n. so_far.each n ∙ go n (p n) refl;
    once = so_far.once;
  }
    where
      and_false : (t u : Bool) → (t && false) ≡ (u && false)
      and_false true true = refl
      and_false true false = refl
      and_false false true = refl
      and_false false false = refl

      go : (n : ℕ) (b : Bool) → p n ≡ b → ((nat_le from n && nat_lt n end) && b) ≡ ((nat_le from n && nat_lt n number) && b)
      go n true is = ap (λ t. (nat_le from n && t) && true) (same (nat_lt n number) refl)
        where
          same : (t : Bool) → nat_lt n number ≡ t → nat_lt n end ≡ nat_lt n number
          same true e = ⊎_elim
              (λ lt. let below : n < end = lt in let yes : nat_lt n end ≡ true = grind (arith, nat_tests, below) in yes ∙ sym e)
              (λ past. absurd (true≢false (sym is ∙ none n past (grind (arith, nat_tests, e)))))
              (cases_lt n end)
          same false e = let no : nat_lt n end ≡ false = grind (arith, nat_tests, e, le) in no ∙ sym e
      go n false is = and_false (nat_le from n && nat_lt n end) (nat_le from n && nat_lt n number)

  -- none at or past the end passes
  pub all_numbers : (end : ℕ) (numbers : List ℕ) → HasNumbers p from end numbers → ((n : ℕ) → end ≤ n → p n ≡ false) → (n : ℕ) → has numbers n ≡ (nat_le from n && p n)
  all_numbers end numbers so_far none n = so_far.each n ∙ go (p n) refl
    where
      go : (b : Bool) → p n ≡ b → ((nat_le from n && nat_lt n end) && b) ≡ (nat_le from n && b)
      go true is =
          let lt : nat_lt n end ≡ true = below (nat_lt n end) refl in
          rw lt (and_true (nat_le from n))
        where
          and_true : (t : Bool) → ((t && true) && true) ≡ (t && true)
          and_true true = refl
          and_true false = refl

          below : (t : Bool) → nat_lt n end ≡ t → nat_lt n end ≡ true
          below true e = e
          below false e = absurd (true≢false (sym is ∙ none n (grind (arith, nat_tests, e))))
      go false is = and_false (nat_le from n && nat_lt n end) ∙ sym (and_false (nat_le from n))
        where
          and_false : (t : Bool) → (t && false) ≡ false
          and_false true = refl
          and_false false = refl

-- the same of all numbers
pub all_from_0 : (p : ℕ → Bool) (end : ℕ) (numbers : List ℕ) → HasNumbers p 0 end numbers → ((n : ℕ) → end ≤ n → p n ≡ false) → (n : ℕ) → has numbers n ≡ p n
all_from_0 p end numbers so_far none n =
    let low : nat_le 0 n ≡ true = grind (arith, nat_tests) in
    all_numbers p 0 end numbers so_far none n ∙ ap (λ t. t && p n) low
