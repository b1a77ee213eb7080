-- The large objects that a collection numbers, one number at a time.
use Rattle.std.proofs.Common.{◌≡◌, ℕ, zero, suc, ◌+◌, ◌-◌, ◌<◌, ◌≤◌, Bool, true, false, cond, List, [], ◌∷◌, ◌++◌, length, take, replicate, Option, Some, None, refl, sym, ap, ◌∙◌, arith, take_all, ⊎_elim}
use Rattle.std.proofs.lemmas.Bool.{cases_lt}
use Rattle.std.proofs.lemmas.List.{length-append, length-replicate, get_or_append_left, get_or-append_right, get_or-replicate}
use Rattle.std.proofs.lemmas.Bool.Decides.{nat_tests}
use Rattle.std.proofs.lemmas.List.Sums.{sum_by-cons}
use Rattle.std.specs.Prelude.{count_by, nat_le, nat_lt, slice_index, slice_index_or}
use Rattle.model.proofs.Options.{some_is, some_not_none}
use Rattle.layout.specs.Place.{large_word}
use Rattle.large_objects.specs.LargeValue.{LargeObject}
use Rattle.steps.specs.CollectionValue.{rank_below}
use Rattle.heap_objects.specs.Large.{is_young_slot, young_before}

-- the names of those of generation at most g, where the first has this number
abbrev pub young_large : ℕ → ℕ → List (Option LargeObject) → List ℕ
young_large g number [] = []
young_large g number (None ∷ slots) = young_large g (number + 1) slots
young_large g number (Some o ∷ slots) = cond (nat_le o.generation g) (large_word number ∷ young_large g (number + 1) slots) (young_large g (number + 1) slots)

-- one where the test holds
abbrev pub one_if : Bool → ℕ
one_if b = cond b 1 0

module _ (g : ℕ) where
  pub before_cons : (slot : Option LargeObject) (slots : List (Option LargeObject)) (n : ℕ) → young_before g (slot ∷ slots) (suc n) ≡ one_if (is_young_slot g slot) + young_before g slots n
  before_cons slot slots n = sum_by-cons (λ s. one_if (is_young_slot g s)) slot (take n slots)

  -- a number that isn't in use counts none
  pub before_skip : (slots : List (Option LargeObject)) (m n : ℕ) → m ≤ n → ((k : ℕ) → m ≤ k → k < n → slice_index_or slots k None ≡ None) → young_before g slots n ≡ young_before g slots m
  before_skip [] zero zero le none = refl
  before_skip [] zero (suc n) le none = refl
  before_skip [] (suc m) zero le none = absurd (omega (arith, le))
  before_skip [] (suc m) (suc n) le none = refl
  before_skip (s ∷ slots) zero zero le none = refl
  before_skip (s ∷ slots) (suc m) zero le none = absurd (omega (arith, le))
  before_skip (None ∷ slots) zero (suc n) le none =
      let here = before_cons None slots n in
      let rest = before_skip slots zero n (omega arith) (λ k a b. none (suc k) (omega arith) (omega (arith, b))) in
      omega (arith, here, rest)
  before_skip (Some x ∷ slots) zero (suc n) le none = absurd (some_not_none (none 0 (omega arith) (omega arith)))
  before_skip (s ∷ slots) (suc m) (suc n) le none =
      before_cons s slots n
      ∙ ap (λ c. one_if (is_young_slot g s) + c) (before_skip slots m n (omega (arith, le)) (λ k a b. none (suc k) (omega (arith, a)) (omega (arith, b))))
      ∙ sym (before_cons s slots m)

  -- an object of generation at most g counts one
  pub before_next : (slots : List (Option LargeObject)) (n : ℕ) (o : LargeObject) (b : Bool) → slice_index_or slots n None ≡ Some o → nat_le o.generation g ≡ b → young_before g slots (suc n) ≡ young_before g slots n + one_if b
  before_next [] n o b is young = absurd (some_not_none (sym is))
  before_next (s ∷ slots) zero o b is young =
      let here = before_cons s slots zero in
      let counts : one_if (is_young_slot g s) ≡ one_if b = ap (λ t. one_if (is_young_slot g t)) is ∙ ap (λ t. one_if t) young in
      omega (arith, here, counts)
  before_next (s ∷ slots) (suc n) o b is young =
      let rest = before_next slots n o b is young in
      let here = before_cons s slots n in
      let next = before_cons s slots (suc n) in
      omega (arith, rest, here, next)

  pub before_few : (slots : List (Option LargeObject)) (n : ℕ) → young_before g slots n ≤ n
  before_few [] zero = omega arith
  before_few [] (suc n) = omega arith
  before_few (s ∷ slots) zero = omega arith
  before_few (s ∷ slots) (suc n) = let most = at_most_one (is_young_slot g s) in omega (arith, before_cons s slots n, before_few slots n, most)
    where
      at_most_one : (b : Bool) → one_if b ≤ 1
      at_most_one true = omega arith
      at_most_one false = omega arith

  pub before_all : (slots : List (Option LargeObject)) (n : ℕ) → ((k : ℕ) → n ≤ k → slice_index_or slots k None ≡ None) → young_before g slots n ≡ young_before g slots (length slots)
  before_all slots n none =
      sym (before_skip slots n (n + length slots) (omega arith) (λ k a b. none k a))
      ∙ ap (λ xs. count_by (is_young_slot g) xs) (take_all (n + length slots) slots (omega arith) ∙ sym (take_all (length slots) slots (omega arith)))

  rank_cons : (word name : ℕ) (names : List ℕ) → rank_below word (name ∷ names) ≡ one_if (nat_lt name word) + rank_below word names
  rank_cons word name names = sum_by-cons (λ n. one_if (nat_lt n word)) name names

  -- those of a list of names that has this one where a test holds
  rank_above : (word name : ℕ) (names : List ℕ) (b : Bool) → word ≤ name → rank_below word (cond b (name ∷ names) names) ≡ rank_below word names
  rank_above word name names true le =
      let past : nat_lt name word ≡ false = grind (arith, nat_tests, le) in
      let here : one_if (nat_lt name word) ≡ 0 = ap (λ t. one_if t) past in
      omega (arith, rank_cons word name names, here)
  rank_above word name names false le = refl

  rank_counts : (word name : ℕ) (names : List ℕ) (b : Bool) → name < word → rank_below word (cond b (name ∷ names) names) ≡ one_if b + rank_below word names
  rank_counts word name names true lt =
      let before : nat_lt name word ≡ true = grind (arith, nat_tests, lt) in
      let here : one_if (nat_lt name word) ≡ 1 = ap (λ t. one_if t) before in
      omega (arith, rank_cons word name names, here)
  rank_counts word name names false lt = omega arith

  -- none lies below the first
  pub rank_first : (word number : ℕ) (slots : List (Option LargeObject)) → word ≤ large_word number → rank_below word (young_large g number slots) ≡ 0
  rank_first word number [] le = refl
  rank_first word number (None ∷ slots) le = rank_first word (number + 1) slots (omega (arith, le))
  rank_first word number (Some o ∷ slots) le = rank_above word (large_word number) (young_large g (number + 1) slots) (nat_le o.generation g) le ∙ rank_first word (number + 1) slots (omega (arith, le))

  -- those with lower numbers lie below the n-th from the first
  pub rank_large : (number n : ℕ) (slots : List (Option LargeObject)) → rank_below (large_word (number + n)) (young_large g number slots) ≡ young_before g slots n
  rank_large number zero [] = refl
  rank_large number (suc n) [] = refl
  rank_large number zero (s ∷ slots) = rank_first (large_word (number + 0)) number (s ∷ slots) (omega arith)
  rank_large number (suc n) (None ∷ slots) =
      let next : large_word (number + suc n) ≡ large_word (number + 1 + n) = omega arith in
      let rest = ap (λ w. rank_below w (young_large g (number + 1) slots)) next ∙ rank_large (number + 1) n slots in
      omega (arith, rest, before_cons None slots n)
  rank_large number (suc n) (Some o ∷ slots) =
      let next : large_word (number + suc n) ≡ large_word (number + 1 + n) = omega arith in
      let rest = ap (λ w. rank_below w (young_large g (number + 1) slots)) next ∙ rank_large (number + 1) n slots in
      let here = rank_counts (large_word (number + suc n)) (large_word number) (young_large g (number + 1) slots) (nat_le o.generation g) (omega arith) in
      omega (arith, here, rest, before_cons (Some o) slots n)

  length_if : (name : ℕ) (names : List ℕ) (b : Bool) → length (cond b (name ∷ names) names) ≡ one_if b + length names
  length_if name names true = omega arith
  length_if name names false = omega arith

  pub young_large-length : (number : ℕ) (slots : List (Option LargeObject)) → length (young_large g number slots) ≡ young_before g slots (length slots)
  young_large-length number [] = refl
  young_large-length number (None ∷ slots) = omega (arith, young_large-length (number + 1) slots, before_cons None slots (length slots))
  young_large-length number (Some o ∷ slots) =
      omega (arith, young_large-length (number + 1) slots, length_if (large_word number) (young_large g (number + 1) slots) (nat_le o.generation g), before_cons (Some o) slots (length slots))

  -- a young one stands where as many stand before it
  pub record StandsAt (number n : ℕ) (slots : List (Option LargeObject)) : Type 0 where
    pub in_range : young_before g slots n < length (young_large g number slots)
    pub is : slice_index (young_large g number slots) (young_before g slots n) ≡ large_word (number + n)

  pub stands_at : (number n : ℕ) (slots : List (Option LargeObject)) (o : LargeObject) → slice_index_or slots n None ≡ Some o → o.generation ≤ g → StandsAt number n slots
  stands_at number n [] o is young = absurd (some_not_none (sym is))
  stands_at number zero (None ∷ slots) o is young = absurd (some_not_none (sym is))
  stands_at number zero (Some x ∷ slots) o is young =
      let same : x ≡ o = some_is is in
      let generation : x.generation ≡ o.generation = ap (λ y. y.generation) same in
      let test : nat_le x.generation g ≡ true = grind (arith, nat_tests, generation, young) in
      let list : young_large g number (Some x ∷ slots) ≡ large_word number ∷ young_large g (number + 1) slots = ap (λ b. cond b (large_word number ∷ young_large g (number + 1) slots) (young_large g (number + 1) slots)) test in
      let first : large_word number ≡ large_word (number + 0) = omega arith in
      record { in_range = rw list (omega arith); is = ap (λ names. slice_index names 0) list ∙ first }
  stands_at number (suc n) (None ∷ slots) o is young =
      let rest = stands_at (number + 1) n slots o is young in
      let count : young_before g (None ∷ slots) (suc n) ≡ young_before g slots n = omega (arith, before_cons None slots n) in
      let next : large_word (number + 1 + n) ≡ large_word (number + suc n) = omega arith in
      record { in_range = omega (arith, count, rest.in_range); is = ap (slice_index (young_large g (number + 1) slots)) count ∙ rest.is ∙ next }
  stands_at number (suc n) (Some x ∷ slots) o is young =
      let rest = stands_at (number + 1) n slots o is young in
      let next : large_word (number + 1 + n) ≡ large_word (number + suc n) = omega arith in
      go (nat_le x.generation g) refl (rest.is ∙ next) rest.in_range
    where
      go : (b : Bool) → nat_le x.generation g ≡ b → slice_index (young_large g (number + 1) slots) (young_before g slots n) ≡ large_word (number + suc n) → young_before g slots n < length (young_large g (number + 1) slots) → StandsAt number (suc n) (Some x ∷ slots)
      go true test found below =
          let list : young_large g number (Some x ∷ slots) ≡ large_word number ∷ young_large g (number + 1) slots = ap (λ b. cond b (large_word number ∷ young_large g (number + 1) slots) (young_large g (number + 1) slots)) test in
          let one : one_if (is_young_slot g (Some x)) ≡ 1 = ap (λ b. one_if b) test in
          let count : young_before g (Some x ∷ slots) (suc n) ≡ suc (young_before g slots n) = omega (arith, before_cons (Some x) slots n, one) in
          record { in_range = rw (list, count) (omega (arith, below)); is = rw (list, count) found }
      go false test found below =
          let list : young_large g number (Some x ∷ slots) ≡ young_large g (number + 1) slots = ap (λ b. cond b (large_word number ∷ young_large g (number + 1) slots) (young_large g (number + 1) slots)) test in
          let one : one_if (is_young_slot g (Some x)) ≡ 0 = ap (λ b. one_if b) test in
          let count : young_before g (Some x ∷ slots) (suc n) ≡ young_before g slots n = omega (arith, before_cons (Some x) slots n, one) in
          record { in_range = rw (list, count) below; is = rw (list, count) found }

  -- the numbers up to one that is in use, where none between is
  pub record HasNumbered (slots : List (Option LargeObject)) (small number : ℕ) (numbers : List ℕ) : Type 0 where
    pub count : length numbers ≡ number + 1
    pub each : (n : ℕ) → n < length numbers → slice_index numbers n ≡ small + young_before g slots n

  pub numbered_to : (slots : List (Option LargeObject)) (small next number : ℕ) (old new : List ℕ) → length old ≤ number
      → ((n : ℕ) → n < length old → slice_index old n ≡ small + young_before g slots n) → next ≡ small + young_before g slots (length old)
      → ((k : ℕ) → length old ≤ k → k < number → slice_index_or slots k None ≡ None) → new ≡ take (number + 1) old ++ replicate (number + 1 - length old) next
      → HasNumbered slots small number new
  numbered_to slots small next number old new le each value none is = record { count = count; each = λ n lt. ap (λ xs. slice_index xs n) list ∙ ⊎_elim (low n) (high n (omega (arith, lt, count))) (cases_lt n (length old)) }
    where
      list : new ≡ old ++ replicate (number + 1 - length old) next
      list = is ∙ ap (λ xs. xs ++ replicate (number + 1 - length old) next) (take_all (number + 1) old (omega (arith, le)))

      count : length new ≡ number + 1
      count = omega (arith, ap length list, length-append old (replicate (number + 1 - length old) next), length-replicate {A = ℕ} (number + 1 - length old) next, le)

      low : (n : ℕ) → n < length old → slice_index (old ++ replicate (number + 1 - length old) next) n ≡ small + young_before g slots n
      low n lt = get_or_append_left old (replicate (number + 1 - length old) next) 0 n lt ∙ each n lt

      high : (n : ℕ) → n < number + 1 → length old ≤ n → slice_index (old ++ replicate (number + 1 - length old) next) n ≡ small + young_before g slots n
      high n lt from =
          get_or-append_right old (replicate (number + 1 - length old) next) (length old) n 0 refl from
          ∙ get_or-replicate (number + 1 - length old) (n - length old) next 0 (omega (arith, lt, from))
          ∙ value
          ∙ ap (λ c. small + c) (sym (before_skip slots (length old) n from (λ k a b. none k a (omega (arith, b, lt)))))

  -- how many stand before the next number
  pub numbered_next : (slots : List (Option LargeObject)) (small next number from : ℕ) (numbers : List ℕ) (o : LargeObject) (b : Bool) → HasNumbered slots small number numbers → from ≤ number
      → next ≡ small + young_before g slots from → ((k : ℕ) → from ≤ k → k < number → slice_index_or slots k None ≡ None) → slice_index_or slots number None ≡ Some o → nat_le o.generation g ≡ b
      → next + one_if b ≡ small + young_before g slots (length numbers)
  numbered_next slots small next number from numbers o b has le value none is young =
      let upto = before_skip slots from number le none in
      let more = before_next slots number o b is young in
      let last : length numbers ≡ suc number = omega (arith, has.count) in
      let end : young_before g slots (length numbers) ≡ young_before g slots (suc number) = ap (young_before g slots) last in
      omega (arith, value, upto, more, end)
