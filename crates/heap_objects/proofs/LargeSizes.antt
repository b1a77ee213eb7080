-- How many large objects there are, and how many words they take.
use Rattle.std.proofs.Common.{◌≡◌, ℕ, suc, ◌+◌, ◌<◌, ◌≤◌, Bool, true, false, cond, List, [], ◌∷◌, ◌++◌, map, filter, length, get_or, sum_by, Option, Some, None, refl, sym, ap, ◌∙◌, arith, take_all}
use Rattle.std.proofs.lemmas.Bool.Decides.{nat_tests}
use Rattle.std.proofs.lemmas.List.{length-append, map-append, length-map}
use Rattle.std.proofs.lemmas.List.Elements.{filter-append}
use Rattle.std.proofs.lemmas.List.Sums.{sum_by-cons, sum_by-append}
use Rattle.std.specs.Prelude.{slice_index_or}
use Rattle.std.specs.FinMap.{entries, values, get-entries}
use Rattle.model.specs.Graph.{Object, size_of, is_large}
use Rattle.model.proofs.RisingKeys.{entries-rise, find_entry}
use Rattle.layout.specs.Place.{large_word}
use Rattle.large_objects.specs.LargeValue.{LargeObject, LargeValue}
use Rattle.heap_objects.specs.WithLarge.{large_object, large_entries, with_large}
use Rattle.heap_objects.proofs.LargeCounts.{entries_below, entries_skip, entries_next}
use Rattle.heap_objects.specs.Space.{SpaceValue}
use Rattle.heap_objects.specs.Inside.{AreApart}
use Rattle.heap_objects.proofs.Sides.{entries_both}

module _ (slots : List (Option LargeObject)) where
  abbrev pub words_below : ℕ → ℕ
  words_below n = sum_by size_of (map (λ e. e.1) (entries_below 0 slots n))

  pub record CountsNext (from n : ℕ) (x : LargeObject) : Type 0 where
    pub objects : length (entries_below 0 slots (n + 1)) ≡ length (entries_below 0 slots from) + 1
    pub words : words_below (n + 1) ≡ words_below from + size_of (large_object x)

  -- a number in use adds its object
  pub counts_next : (from n : ℕ) (x : LargeObject) → from ≤ n → ((k : ℕ) → from ≤ k → k < n → slice_index_or slots k None ≡ None) → slice_index_or slots n None ≡ Some x → CountsNext from n x
  counts_next from n x le none is = record {
    objects = ap (λ (es : List (ℕ × Object)). length es) entries ∙ length-append (entries_below 0 slots from) (last ∷ []);
    words = ap (λ es. sum_by size_of (map (λ (e : ℕ × Object). e.1) es)) entries
        ∙ ap (sum_by size_of) (map-append (λ (e : ℕ × Object). e.1) (entries_below 0 slots from) (last ∷ []))
        ∙ sum_by-append size_of (map (λ e. e.1) (entries_below 0 slots from)) (large_object x ∷ [])
        ∙ ap (λ c. words_below from + c) one;
  }
    where
      last : ℕ × Object
      last = (large_word (0 + n), large_object x)

      entries : entries_below 0 slots (n + 1) ≡ entries_below 0 slots from ++ last ∷ []
      entries =
          let next : n + 1 ≡ suc n = omega arith in
          ap (entries_below 0 slots) next ∙ entries_next 0 slots n x is ∙ ap (λ es. es ++ last ∷ []) (entries_skip 0 slots from n le none)

      one : sum_by size_of (large_object x ∷ []) ≡ size_of (large_object x)
      one = omega (arith, sum_by-cons size_of (large_object x) [])

  pub entries_end : (from : ℕ) → ((k : ℕ) → from ≤ k → slice_index_or slots k None ≡ None) → entries_below 0 slots from ≡ large_entries 0 slots
  entries_end from none =
      sym (entries_skip 0 slots from (from + length slots) (omega arith) (λ k a b. none k a))
      ∙ ap (large_entries 0) (take_all (from + length slots) slots (omega arith))

filter_none : {X : Type 0} (p : X → Bool) (d : ℕ × X) (es : List (ℕ × X)) → ((k : ℕ) → k < length es → p (get_or es k d).1 ≡ false) → filter p (map (λ e. e.1) es) ≡ []
filter_none p d [] each = refl
filter_none p d (e ∷ es) each =
    ap (λ b. cond b (e.1 ∷ filter p (map (λ x. x.1) es)) (filter p (map (λ x. x.1) es))) (each 0 (omega arith)) ∙ filter_none p d es (λ k lt. each (suc k) (omega (arith, lt)))

filter_all : (p : Object → Bool) (number : ℕ) (slots : List (Option LargeObject)) → ((k : ℕ) (o : LargeObject) → slice_index_or slots k None ≡ Some o → p (large_object o) ≡ true) → filter p (map (λ e. e.1) (large_entries number slots)) ≡ map (λ e. e.1) (large_entries number slots)
filter_all p number [] each = refl
filter_all p number (None ∷ slots) each = filter_all p (number + 1) slots (λ k. each (suc k))
filter_all p number (Some o ∷ slots) each =
    ap (λ b. cond b (large_object o ∷ filter p (map (λ x. x.1) (large_entries (number + 1) slots))) (filter p (map (λ x. x.1) (large_entries (number + 1) slots)))) (each 0 o refl)
    ∙ ap (λ os. large_object o ∷ os) (filter_all p (number + 1) slots (λ k. each (suc k)))

module _ (space : SpaceValue) (large : LargeValue) (are : AreApart space large) where
  -- of all objects, those that are large
  pub larges_are : filter (is_large space.config.block_words) (values (with_large space.objects large.slots)) ≡ map (λ e. e.1) (large_entries 0 large.slots)
  larges_are =
      ap (λ (es : List (ℕ × Object)). filter (is_large space.config.block_words) (map (λ e. e.1) es)) (entries_both space are.small large.slots)
      ∙ ap (filter (is_large space.config.block_words)) (map-append (λ (e : ℕ × Object). e.1) (entries space.objects) (large_entries 0 large.slots))
      ∙ filter-append (is_large space.config.block_words) (map (λ e. e.1) (entries space.objects)) (map (λ e. e.1) (large_entries 0 large.slots))
      ∙ ap (λ os. os ++ filter (is_large space.config.block_words) (map (λ e. e.1) (large_entries 0 large.slots))) (filter_none (is_large space.config.block_words) (0, none) (entries space.objects) small)
      ∙ filter_all (is_large space.config.block_words) 0 large.slots (λ k o is. (are.each k o is).large)
    where
      none : Object
      none = record { pointers = []; plain = []; generation = 0; step = 0 }

      small : (k : ℕ) → k < length (entries space.objects) → is_large space.config.block_words (get_or (entries space.objects) k (0, none)).1 ≡ false
      small k lt =
          let at = get_or (entries space.objects) k (0, none) in
          let there = get-entries space.objects at.0 ∙ find_entry 0 (entries space.objects) k (0, none) (entries-rise space.objects) lt in
          let le = are.small.small at.0 at.1 there in
          grind (arith, nat_tests, le)

  pub count_is : length (filter (is_large space.config.block_words) (values (with_large space.objects large.slots))) ≡ length (large_entries 0 large.slots)
  count_is = ap (λ (os : List Object). length os) larges_are ∙ length-map (large_entries 0 large.slots) (λ e. e.1)
