-- The plain program's forms are the definitions.
use Rattle.std.proofs.Common.{◌≡◌, ℕ, zero, suc, ◌+◌, ◌<◌, ◌≤◌, Bool, true, false, cond, List, [], ◌∷◌, ◌++◌, length, get_or, map, Option, Some, None, refl, sym, ap, ◌∙◌, arith, ⊎_elim}
use Rattle.std.proofs.lemmas.Bool.{cases_lt}
use Rattle.std.proofs.Math.ListN.{get_or-eq_default}
use Rattle.std.proofs.lemmas.List.Sums.{sum_by-cons}
use Rattle.std.proofs.lemmas.List.{append-nil}
use Rattle.std.proofs.lemmas.Grind.{flat_map-append}
use Rattle.std.specs.Prelude.{nat_lt, nat_le, count_by, sum_by, slice_get, flat_map, filter, filter_map}
use Rattle.std.specs.Option.{option_and_then, option_map_or}
use Rattle.model.specs.Graph.{Object, size_of}
use Rattle.model.specs.Destination.{numbers_from}
use Rattle.model.specs.Reached.{reached_list}
use Rattle.model.specs.Store.{Store, object_at, targets, targets_of, is_young_at, old_targets}
use Rattle.reference.specs.Table.{row}
use Rattle.reference.specs.Plain.{old_of, steps_within, is_young_slot, in_part, is_slot_in, words_in, is_slot_remembered, totals_text}
use Rattle.model.specs.Census.{points_younger}
use Rattle.model.proofs.Has.{numbers_from-append}

pub old_of-present : (g : ℕ) (slots : List (Option Object)) → flat_map (old_of g) slots ≡ old_targets g (filter_map (λ o. o) slots)
old_of-present g [] = refl
old_of-present g (None ∷ slots) = old_of-present g slots
old_of-present g (Some o ∷ slots) = go (nat_lt g o.generation) (old_of-present g slots)
  where
    rest : List Object
    rest = filter (λ x. nat_lt g x.generation) (filter_map (λ x. x) slots)

    go : (b : Bool) → flat_map (old_of g) slots ≡ flat_map targets (filter (λ x. nat_lt g x.generation) (filter_map (λ x. x) slots)) → cond b (targets o) [] ++ flat_map (old_of g) slots ≡ flat_map targets (cond b (o ∷ filter (λ x. nat_lt g x.generation) (filter_map (λ x. x) slots)) (filter (λ x. nat_lt g x.generation) (filter_map (λ x. x) slots)))
    go true e = ap (λ ys. targets o ++ ys) e
    go false e = e

pub slice_get_past : {X : Type 0} (xs : List X) (k : ℕ) → length xs ≤ k → slice_get xs k ≡ None
slice_get_past [] k h = refl
slice_get_past (x ∷ xs) zero h = absurd (omega arith)
slice_get_past (x ∷ xs) (suc k) h = slice_get_past xs k (omega arith)

row_at : (f : ℕ → List ℕ) (i n k : ℕ) → k < n → get_or (map f (numbers_from i n)) k [] ≡ f (i + k)
row_at f i zero k h = absurd (omega arith)
row_at f i (suc n) zero h = let e : i ≡ i + zero = omega arith in ap f e
row_at f i (suc n) (suc k) h = let e : (i + 1) + k ≡ i + suc k = omega arith in row_at f (i + 1) n k (omega arith) ∙ ap f e

length_rows : (f : ℕ → List ℕ) (i n : ℕ) → length (map f (numbers_from i n)) ≡ n
length_rows f i zero = refl
length_rows f i (suc n) = ap suc (length_rows f (i + 1) n)

-- the rows of a function that gives nothing past their number
pub rows_are : (f : ℕ → List ℕ) (n : ℕ) → ((name : ℕ) → n ≤ name → f name ≡ []) → row (map f (numbers_from 0 n)) ≡ f
rows_are f n past = λ i name. at name i
  where
    at : (name : ℕ) → row (map f (numbers_from 0 n)) name ≡ f name
    at name =
        ⊎_elim
        (λ (lt : name < n). let e : 0 + name ≡ name = omega arith in row_at f 0 n name lt ∙ ap f e)
        (λ (ge : n ≤ name). let long : length (map f (numbers_from 0 n)) ≤ name = omega (arith, length_rows f 0 n) in get_or-eq_default (map f (numbers_from 0 n)) [] long ∙ sym (past name ge))
        (cases_lt name n)

no_targets_past : (store : Store) (name : ℕ) → length store.objects ≤ name → targets_of store name ≡ []
no_targets_past store name h = ap (λ o. option_map_or targets (option_and_then (λ x. x) o) []) (slice_get_past store.objects name h)

pub no_steps_past : (store : Store) (limit : Option ℕ) (name : ℕ) → length store.objects ≤ name → steps_within store limit name ≡ []
no_steps_past store None name h = no_targets_past store name h
no_steps_past store (Some g) name h = ap (filter (is_young_at store g)) (no_targets_past store name h)

pub rows-numbers : {Y : Type 0} (f : ℕ → Y) (n : ℕ) → map f (numbers_from 0 (n + 1)) ≡ map f (numbers_from 0 n) ++ f n ∷ []
rows-numbers f n = ap (map f) (numbers_from-append 0 n 1) ∙ shown (numbers_from 0 n)
  where
    shown : (xs : List ℕ) → map f (xs ++ (0 + n) ∷ []) ≡ map f xs ++ f n ∷ []
    shown [] = let e : 0 + n ≡ n = omega arith in ap (λ k. f k ∷ []) e
    shown (x ∷ xs) = ap (λ ys. f x ∷ ys) (shown xs)

pub flat_map-numbers : {Y : Type 0} (f : ℕ → List Y) (n : ℕ) → flat_map f (numbers_from 0 (n + 1)) ≡ flat_map f (numbers_from 0 n) ++ f n
flat_map-numbers f n = ap (flat_map f) (numbers_from-append 0 n 1) ∙ flat_map-append f (numbers_from 0 n) ((0 + n) ∷ []) ∙ ap (λ ys. flat_map f (numbers_from 0 n) ++ ys) (append-nil (f (0 + n))) ∙ let e : 0 + n ≡ n = omega arith in ap (λ k. flat_map f (numbers_from 0 n) ++ f k) e

-- what the rows of a store reach
pub reached_rows : (store : Store) (limit : Option ℕ) (rows : List (List ℕ)) (start : List ℕ) (n : ℕ) → rows ≡ map (steps_within store limit) (numbers_from 0 (length store.objects)) → n ≡ length rows → reached_list (row rows) n start ≡ reached_list (steps_within store limit) (length store.objects) start
reached_rows store limit rows start n e h =
    let many : n ≡ length store.objects = h ∙ ap length e ∙ length_rows (steps_within store limit) 0 (length store.objects) in
    ap (λ f. reached_list f n start) (ap row e ∙ rows_are (steps_within store limit) (length store.objects) (no_steps_past store limit))
    ∙ ap (λ k. reached_list (steps_within store limit) k start) many

pub count-young : (g : ℕ) (slots : List (Option Object)) → count_by (is_young_slot g) slots ≡ count_by (λ o. nat_le o.generation g) (filter_map (λ o. o) slots)
count-young g [] = refl
count-young g (None ∷ slots) = sum_by-cons (λ o. cond (is_young_slot g o) 1 0) None slots ∙ let e : 0 + count_by (is_young_slot g) slots ≡ count_by (is_young_slot g) slots = omega arith in e ∙ count-young g slots
count-young g (Some o ∷ slots) =
    sum_by-cons (λ x. cond (is_young_slot g x) 1 0) (Some o) slots
    ∙ ap (λ n. cond (nat_le o.generation g) 1 0 + n) (count-young g slots)
    ∙ sym (sum_by-cons (λ x. cond (nat_le x.generation g) 1 0) o (filter_map (λ x. x) slots))

pub count-part : (block_words : ℕ) (part : Option (ℕ × ℕ)) (slots : List (Option Object)) → count_by (is_slot_in block_words part) slots ≡ length (filter (in_part block_words part) (filter_map (λ o. o) slots))
count-part block_words part [] = refl
count-part block_words part (None ∷ slots) = sum_by-cons (λ o. cond (is_slot_in block_words part o) 1 0) None slots ∙ let e : 0 + count_by (is_slot_in block_words part) slots ≡ count_by (is_slot_in block_words part) slots = omega arith in e ∙ count-part block_words part slots
count-part block_words part (Some o ∷ slots) = sum_by-cons (λ x. cond (is_slot_in block_words part x) 1 0) (Some o) slots ∙ go (in_part block_words part o) (count-part block_words part slots)
  where
    go : (b : Bool) → count_by (is_slot_in block_words part) slots ≡ length (filter (in_part block_words part) (filter_map (λ x. x) slots)) → cond b 1 0 + count_by (is_slot_in block_words part) slots ≡ length (cond b (o ∷ filter (in_part block_words part) (filter_map (λ x. x) slots)) (filter (in_part block_words part) (filter_map (λ x. x) slots)))
    go true e = omega (arith, e)
    go false e = omega (arith, e)

pub words-part : (block_words : ℕ) (part : Option (ℕ × ℕ)) (slots : List (Option Object)) → sum_by (words_in block_words part) slots ≡ sum_by size_of (filter (in_part block_words part) (filter_map (λ o. o) slots))
words-part block_words part [] = refl
words-part block_words part (None ∷ slots) = sum_by-cons (words_in block_words part) None slots ∙ let e : 0 + sum_by (words_in block_words part) slots ≡ sum_by (words_in block_words part) slots = omega arith in e ∙ words-part block_words part slots
words-part block_words part (Some o ∷ slots) = sum_by-cons (words_in block_words part) (Some o) slots ∙ go (in_part block_words part o) (words-part block_words part slots)
  where
    go : (b : Bool) → sum_by (words_in block_words part) slots ≡ sum_by size_of (filter (in_part block_words part) (filter_map (λ x. x) slots)) → cond b (size_of o) 0 + sum_by (words_in block_words part) slots ≡ sum_by size_of (cond b (o ∷ filter (in_part block_words part) (filter_map (λ x. x) slots)) (filter (in_part block_words part) (filter_map (λ x. x) slots)))
    go true e = ap (λ n. size_of o + n) e ∙ sym (sum_by-cons size_of o (filter (in_part block_words part) (filter_map (λ x. x) slots)))
    go false e = let z : 0 + sum_by (words_in block_words part) slots ≡ sum_by (words_in block_words part) slots = omega arith in z ∙ e

pub count-remembered : (store : Store) (slots : List (Option Object)) → count_by (is_slot_remembered store) slots ≡ count_by (points_younger (object_at store)) (filter_map (λ o. o) slots)
count-remembered store [] = refl
count-remembered store (None ∷ slots) = sum_by-cons (λ o. cond (is_slot_remembered store o) 1 0) None slots ∙ let e : 0 + count_by (is_slot_remembered store) slots ≡ count_by (is_slot_remembered store) slots = omega arith in e ∙ count-remembered store slots
count-remembered store (Some o ∷ slots) =
    sum_by-cons (λ x. cond (is_slot_remembered store x) 1 0) (Some o) slots
    ∙ ap (λ n. cond (points_younger (object_at store) o) 1 0 + n) (count-remembered store slots)
    ∙ sym (sum_by-cons (λ x. cond (points_younger (object_at store) x) 1 0) o (filter_map (λ x. x) slots))

pub same_totals : {b b' : List ℕ} {o o' w w' r r' m m' : ℕ} → b ≡ b' → o ≡ o' → w ≡ w' → r ≡ r' → m ≡ m' → totals_text b o w r m ≡ totals_text b' o' w' r' m'
same_totals p q s t u = λ i. totals_text (p i) (q i) (s i) (t i) (u i)
