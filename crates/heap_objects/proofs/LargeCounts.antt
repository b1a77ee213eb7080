-- The large objects with a pointer to a younger one, counted a step at a time.
use Rattle.std.proofs.Common.{◌≡◌, ℕ, zero, suc, ◌+◌, ◌<◌, ◌≤◌, Bool, cond, List, [], ◌∷◌, ◌++◌, length, take, Option, Some, None, refl, sym, ap, ◌∙◌, arith, take_all}
use Rattle.std.proofs.lemmas.List.Sums.{sum_by-cons, sum_by-append}
use Rattle.std.specs.Prelude.{count_by, slice_index_or}
use Rattle.model.specs.Graph.{Object}
use Rattle.model.proofs.Options.{some_not_none, some_is}
use Rattle.layout.specs.Place.{large_word}
use Rattle.steps.proofs.Values.{values_of}
use Rattle.nursery.proofs.TableCensus.{values_of-append}
use Rattle.large_objects.specs.LargeValue.{LargeObject}
use Rattle.heap_objects.specs.WithLarge.{large_object, large_entries}

-- the large objects with numbers below n
abbrev pub entries_below : ℕ → List (Option LargeObject) → ℕ → List (ℕ × Object)
entries_below number slots n = large_entries number (take n slots)

pub count-append : (p : Object → Bool) (xs ys : List Object) → count_by p (xs ++ ys) ≡ count_by p xs + count_by p ys
count-append p xs ys = sum_by-append (λ o. cond (p o) 1 0) xs ys

-- numbers that are not in use add none
pub entries_skip : (number : ℕ) (slots : List (Option LargeObject)) (m n : ℕ) → m ≤ n → ((k : ℕ) → m ≤ k → k < n → slice_index_or slots k None ≡ None) → entries_below number slots n ≡ entries_below number slots m
entries_skip number [] zero zero le none = refl
entries_skip number [] zero (suc n) le none = refl
entries_skip number [] (suc m) zero le none = absurd (omega (arith, le))
entries_skip number [] (suc m) (suc n) le none = refl
entries_skip number (s ∷ slots) zero zero le none = refl
entries_skip number (s ∷ slots) (suc m) zero le none = absurd (omega (arith, le))
entries_skip number (None ∷ slots) zero (suc n) le none = entries_skip (number + 1) slots zero n (omega arith) (λ k a b. none (suc k) (omega arith) (omega (arith, b)))
entries_skip number (Some x ∷ slots) zero (suc n) le none = absurd (some_not_none (none 0 (omega arith) (omega arith)))
entries_skip number (None ∷ slots) (suc m) (suc n) le none = entries_skip (number + 1) slots m n (omega (arith, le)) (λ k a b. none (suc k) (omega (arith, a)) (omega (arith, b)))
entries_skip number (Some x ∷ slots) (suc m) (suc n) le none =
    ap (λ es. (large_word number, large_object x) ∷ es) (entries_skip (number + 1) slots m n (omega (arith, le)) (λ k a b. none (suc k) (omega (arith, a)) (omega (arith, b))))

-- a number in use adds its object
pub entries_next : (number : ℕ) (slots : List (Option LargeObject)) (n : ℕ) (x : LargeObject) → slice_index_or slots n None ≡ Some x → entries_below number slots (suc n) ≡ entries_below number slots n ++ (large_word (number + n), large_object x) ∷ []
entries_next number [] n x is = absurd (some_not_none (sym is))
entries_next number (None ∷ slots) zero x is = absurd (some_not_none (sym is))
entries_next number (Some y ∷ slots) zero x is =
    let same : y ≡ x = some_is is in
    let here : number ≡ number + 0 = omega arith in
    λ i. (large_word (here i), large_object (same i)) ∷ []
entries_next number (None ∷ slots) (suc n) x is =
    let next : number + 1 + n ≡ number + suc n = omega arith in
    entries_next (number + 1) slots n x is ∙ ap (λ m. entries_below (number + 1) slots n ++ (large_word m, large_object x) ∷ []) next
entries_next number (Some y ∷ slots) (suc n) x is =
    let next : number + 1 + n ≡ number + suc n = omega arith in
    ap (λ es. (large_word number, large_object y) ∷ es) (entries_next (number + 1) slots n x is ∙ ap (λ m. entries_below (number + 1) slots n ++ (large_word m, large_object x) ∷ []) next)

module _ (p : Object → Bool) (slots : List (Option LargeObject)) where
  -- how many of those with numbers below n
  abbrev pub count_below : ℕ → ℕ
  count_below n = count_by p (values_of (entries_below 0 slots n))

  pub count_next : (from n : ℕ) (x : LargeObject) (b : Bool) → from ≤ n → ((k : ℕ) → from ≤ k → k < n → slice_index_or slots k None ≡ None) → slice_index_or slots n None ≡ Some x → p (large_object x) ≡ b → count_below (n + 1) ≡ count_below from + cond b 1 0
  count_next from n x b le none is test =
      let next : n + 1 ≡ suc n = omega arith in
      ap count_below next
      ∙ ap (λ es. count_by p (values_of es)) (entries_next 0 slots n x is)
      ∙ ap (count_by p) (values_of-append (entries_below 0 slots n) ((large_word (0 + n), large_object x) ∷ []))
      ∙ sum_by-append (λ o. cond (p o) 1 0) (values_of (entries_below 0 slots n)) (large_object x ∷ [])
      ∙ ap (λ es. count_by p (values_of es) + count_by p (large_object x ∷ [])) (entries_skip 0 slots from n le none)
      ∙ ap (λ c. count_below from + c) one
    where
      plain : (c : ℕ) → c + 0 ≡ c
      plain c = omega arith

      one : count_by p (large_object x ∷ []) ≡ cond b 1 0
      one = sum_by-cons (λ o. cond (p o) 1 0) (large_object x) [] ∙ ap (λ t. cond t 1 0 + 0) test ∙ plain (cond b 1 0)

  pub count_end : (from : ℕ) → ((k : ℕ) → from ≤ k → slice_index_or slots k None ≡ None) → count_below from ≡ count_by p (values_of (large_entries 0 slots))
  count_end from none =
      sym (ap (λ es. count_by p (values_of es)) (entries_skip 0 slots from (from + length slots) (omega arith) (λ k a b. none k a)))
      ∙ ap (λ xs. count_by p (values_of (large_entries 0 xs))) (take_all (from + length slots) slots (omega arith))
