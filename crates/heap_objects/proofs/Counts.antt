-- Counts of small and of large objects.
use Rattle.std.proofs.Common.{◌≡◌, ℕ, ◌+◌, ◌&&◌, not, Bool, true, false, cond, suc, List, [], ◌∷◌, ◌++◌, length, map, filter, Option, Some, None, refl, ap, ◌∙◌}
use Rattle.std.proofs.lemmas.List.{append-nil, map-append}
use Rattle.std.proofs.lemmas.List.Elements.{filter-append}
use Rattle.std.specs.Prelude.{sum_by, slice_index_or, nat_eq}
use Rattle.std.specs.FinMap.{values, entries}
use Rattle.model.specs.Census.{StepCount, step_count, is_small_at}
use Rattle.model.specs.Graph.{Object, size_of, is_large}
use Rattle.large_objects.specs.LargeValue.{LargeObject, LargeValue}
use Rattle.heap_objects.specs.WithLarge.{large_object, large_entries, with_large}
use Rattle.heap_objects.specs.Space.{SpaceValue, IsSpace}
use Rattle.heap_objects.specs.Inside.{AreApart}
use Rattle.heap_objects.proofs.Sides.{entries_both}

abbrev pub large_values : ℕ → List (Option LargeObject) → List Object
large_values number slots = map (λ e. e.1) (large_entries number slots)

pub values_both : (space : SpaceValue) → IsSpace space → (slots : List (Option LargeObject)) → values (with_large space.objects slots) ≡ values space.objects ++ large_values 0 slots
values_both space sound slots = ap (map (λ e. e.1)) (entries_both space sound slots) ∙ map-append (λ (e : ℕ × Object). e.1) (entries space.objects) (large_entries 0 slots)

not_small : (words : ℕ) (at : ℕ × ℕ) (o : Object) → is_large words o ≡ true → is_small_at words at o ≡ false
not_small words at o big = ap (λ b. (nat_eq o.generation at.0 && nat_eq o.step at.1) && not b) big ∙ and_false (nat_eq o.generation at.0 && nat_eq o.step at.1)
  where
    and_false : (b : Bool) → (b && false) ≡ false
    and_false true = refl
    and_false false = refl

-- none of the large objects is a small one of a step
none_small : (words : ℕ) (at : ℕ × ℕ) (number : ℕ) (slots : List (Option LargeObject)) → ((n : ℕ) (o : LargeObject) → slice_index_or slots n None ≡ Some o → is_large words (large_object o) ≡ true) → filter (is_small_at words at) (large_values number slots) ≡ []
none_small words at number [] each = refl
none_small words at number (None ∷ slots) each = none_small words at (number + 1) slots (λ n. each (suc n))
none_small words at number (Some o ∷ slots) each =
    ap (λ b. cond b (large_object o ∷ filter (is_small_at words at) (large_values (number + 1) slots)) (filter (is_small_at words at) (large_values (number + 1) slots))) (not_small words at (large_object o) (each 0 o refl))
    ∙ none_small words at (number + 1) slots (λ n. each (suc n))

-- so the small ones of a step are those in blocks
pub small_counted : (space : SpaceValue) (large : LargeValue) → AreApart space large → (at : ℕ × ℕ) → step_count space.config.block_words (values (with_large space.objects large.slots)) at ≡ step_count space.config.block_words (values space.objects) at
small_counted space large apart at =
    ap (λ os. let c : StepCount = record { generation = at.0; step = at.1; objects = length os; words = sum_by size_of os } in c)
    (ap (filter (is_small_at space.config.block_words at)) (values_both space apart.small large.slots)
    ∙ filter-append (is_small_at space.config.block_words at) (values space.objects) (large_values 0 large.slots)
    ∙ ap (λ zs. filter (is_small_at space.config.block_words at) (values space.objects) ++ zs) (none_small space.config.block_words at 0 large.slots (λ n o is. (apart.each n o is).large))
    ∙ append-nil (filter (is_small_at space.config.block_words at) (values space.objects)))
