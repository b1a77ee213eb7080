-- The blocks of one generation and step, and the objects that they hold.
use Rattle.std.proofs.Common.{◌≡◌, ℕ, zero, suc, ◌+◌, ◌/◌, ◌≤◌, Bool, true, false, cond, ◌&&◌, not, List, [], ◌∷◌, ◌++◌, map, length, Option, Some, None, sum_by, refl, sym, ap, ◌∙◌, arith}
use Rattle.std.proofs.lemmas.Bool.Decides.{nat_tests}
use Rattle.std.proofs.lemmas.List.{length-map}
use Rattle.std.proofs.lemmas.List.Elements.{filter-append}
use Rattle.std.specs.Prelude.{nat_eq, nat_lt, filter}
use Rattle.std.specs.FinMap.{values}
use Rattle.model.specs.Config.{Config}
use Rattle.model.specs.Graph.{size_of}
use Rattle.model.specs.Census.{StepCount, is_small_at, step_count}
use Rattle.layout.specs.Object.{Raw, raw_size}
use Rattle.layout.specs.Place.{small_word}
use Rattle.block_pool.specs.BlockValue.{BlockValue}
use Rattle.steps.specs.Words.{target_of_word}
use Rattle.steps.specs.BlockObjects.{object_of, objects_from, block_objects}
use Rattle.steps.proofs.Values.{values_of}
use Rattle.steps.specs.ConfigRange.{IsInRange}
use Rattle.nursery.specs.Table.{slot_at, slot_objects, table_objects, slot_len, slot_words, AreSmall, IsHeapBlock, AreHeapBlocks, objects_map, step_slot}
use Rattle.nursery.proofs.TableMap.{entries-objects_map}
use Rattle.nursery.proofs.TableCensus.{values_of-append, AreHeapBlocks-first, AreHeapBlocks-rest, blocks-fit, length-values, words-values}

abbrev pub step_table : ℕ × ℕ → List (Option BlockValue) → List (Option BlockValue)
step_table at table = map (step_slot at) table

pub step_table_at : (at : ℕ × ℕ) (table : List (Option BlockValue)) (n : ℕ) → slot_at (step_table at table) n ≡ step_slot at (slot_at table n)
step_table_at at [] n = refl
step_table_at at (slot ∷ table) zero = refl
step_table_at at (slot ∷ table) (suc n) = step_table_at at table n

module _ (w : ℕ) (at : ℕ × ℕ) where
  same_test : (g s : ℕ) (r : Raw) → raw_size r ≤ w / 4 → is_small_at w at (object_of g s r) ≡ (nat_eq g at.0 && nat_eq s at.1)
  same_test g s r small =
      let same : size_of (object_of g s r) ≡ raw_size r = omega (arith, length-map r.pointers target_of_word) in
      let not_large : nat_lt (w / 4) (size_of (object_of g s r)) ≡ false = grind (arith, nat_tests, same, small) in
      ap (λ t. (nat_eq g at.0 && nat_eq s at.1) && not t) not_large ∙ and_true (nat_eq g at.0 && nat_eq s at.1)
    where
      and_true : (b : Bool) → (b && true) ≡ b
      and_true true = refl
      and_true false = refl

  filter_from : (word g s : ℕ) (raws : List Raw) (b : Bool) → (nat_eq g at.0 && nat_eq s at.1) ≡ b → AreSmall w raws → filter (is_small_at w at) (values_of (objects_from word g s raws)) ≡ cond b (values_of (objects_from word g s raws)) []
  filter_from word g s [] true is small = refl
  filter_from word g s [] false is small = refl
  filter_from word g s (r ∷ raws) true is small =
      rw (same_test g s r small.0 ∙ is) (ap (λ os. object_of g s r ∷ os) (filter_from (word + raw_size r) g s raws true is small.1))
  filter_from word g s (r ∷ raws) false is small =
      rw (same_test g s r small.0 ∙ is) (filter_from (word + raw_size r) g s raws false is small.1)

  filter_slot : (config : Config) → config.block_words ≡ w → (number : ℕ) (slot : Option BlockValue) → ((block : BlockValue) → slot ≡ Some block → IsHeapBlock config number block) → filter (is_small_at w at) (values_of (slot_objects number slot)) ≡ values_of (slot_objects number (step_slot at slot))
  filter_slot config words number None h = refl
  filter_slot config words number (Some block) h = go (nat_eq block.generation at.0 && nat_eq block.step at.1) refl
    where
      small : AreSmall w block.objects
      small = rw words at (h block refl).objects

      go : (b : Bool) → (nat_eq block.generation at.0 && nat_eq block.step at.1) ≡ b → filter (is_small_at w at) (values_of (block_objects number block)) ≡ values_of (slot_objects number (cond b (Some block) None))
      go true is = filter_from (small_word number 0) block.generation block.step block.objects true is small
      go false is = filter_from (small_word number 0) block.generation block.step block.objects false is small

  filter_table : (config : Config) → config.block_words ≡ w → (number : ℕ) (table : List (Option BlockValue)) → AreHeapBlocks config number table → filter (is_small_at w at) (values_of (table_objects number table)) ≡ values_of (table_objects number (step_table at table))
  filter_table config words number [] h = refl
  filter_table config words number (slot ∷ table) h =
      ap (filter (is_small_at w at)) (values_of-append (slot_objects number slot) (table_objects (number + 1) table))
      ∙ filter-append (is_small_at w at) (values_of (slot_objects number slot)) (values_of (table_objects (number + 1) table))
      ∙ ap (λ os. os ++ filter (is_small_at w at) (values_of (table_objects (number + 1) table))) (filter_slot config words number slot (AreHeapBlocks-first config number slot table h))
      ∙ ap (λ os. values_of (slot_objects number (step_slot at slot)) ++ os) (filter_table config words (number + 1) table (AreHeapBlocks-rest config number slot table h))
      ∙ sym (values_of-append (slot_objects number (step_slot at slot)) (table_objects (number + 1) (step_table at table)))

-- the counts of the blocks of a step are those of the step
pub step_counted : (config : Config) (table : List (Option BlockValue)) (at : ℕ × ℕ) (objects words : ℕ) → IsInRange config → AreHeapBlocks config 0 table → objects ≡ sum_by slot_len (step_table at table) → words ≡ sum_by slot_words (step_table at table)
    → (let count : StepCount = record { generation = at.0; step = at.1; objects = objects; words = words } in count) ≡ step_count config.block_words (values (objects_map table)) at
step_counted config table at objects words range blocks objects_are words_are =
    let same : filter (is_small_at config.block_words at) (values (objects_map table)) ≡ values_of (table_objects 0 (step_table at table)) =
    ap (λ es. filter (is_small_at config.block_words at) (values_of es)) (entries-objects_map table (blocks-fit config 0 table range blocks)) ∙ filter_table config.block_words at config refl 0 table blocks in
    let objects' : objects ≡ length (filter (is_small_at config.block_words at) (values (objects_map table))) = objects_are ∙ sym (length-values 0 (step_table at table)) ∙ sym (ap length same) in
    let words' : words ≡ sum_by size_of (filter (is_small_at config.block_words at) (values (objects_map table))) = words_are ∙ sym (words-values 0 (step_table at table)) ∙ sym (ap (sum_by size_of) same) in
    λ i. record { generation = at.0; step = at.1; objects = objects' i; words = words' i }
