-- The objects of the generations that are collected, by number.
use Rattle.std.proofs.Common.{◌≡◌, ℕ, ◌+◌, ◌*◌, ◌<◌, ◌≤◌, Bool, true, false, cond, ◌&&◌, List, [], ◌∷◌, length, get_or, Option, Some, None, sum_by, refl, sym, ap, subst, ◌∙◌, arith}
use Rattle.std.proofs.lemmas.Bool.Decides.{nat_tests}
use Rattle.std.proofs.lemmas.List.{length-map}
use Rattle.std.specs.Prelude.{nat_le, nat_lt}
use Rattle.std.specs.Ordering.{nat_cmp}
use Rattle.std.specs.FinMap.{find, keys}
use Rattle.model.specs.Graph.{Graph}
use Rattle.model.specs.Live.{IsYoung}
use Rattle.model.proofs.Options.{some_is, some_not_none}
use Rattle.layout.specs.Object.{Raw}
use Rattle.layout.specs.Place.{small_word}
use Rattle.block_pool.specs.BlockValue.{BlockValue}
use Rattle.block_pool.specs.PoolValue.{PoolValue}
use Rattle.model.specs.Config.{Config}
use Rattle.steps.specs.CollectionValue.{rank_below, young_names}
use Rattle.steps.specs.BlockObjects.{objects_from}
use Rattle.nursery.specs.Areas.{holds_young}
use Rattle.nursery.specs.Table.{slot_at, slot_objects, slot_len, objects_before, objects_map, young_slot, young_table}
use Rattle.nursery.proofs.TableLemmas.{TableFits}
use Rattle.nursery.proofs.YoungBlocks.{young_fits, young_names-table, young_at, found-generation}
use Rattle.nursery.specs.NurseryValue.{NurseryValue}
use Rattle.heap_objects.specs.Space.{IsSoundSpace, space_of, graph_in}
use Rattle.heap_objects.specs.HeapSpaceCollecting.{AreBases, IsNumbered}
use Rattle.heap_objects.proofs.Sound.{sound_fits, few_blocks}
use Rattle.nursery.proofs.Located.{Begins, IsBeginning, begins_at, object_found, rank_is, count_is, few_objects, number_in_range, number_names, at_word}

module _ (config : Config) (table : List (Option BlockValue)) (nurseries : List NurseryValue) (pool : PoolValue) (sound : IsSoundSpace config table nurseries pool) (g : ℕ) where
  abbrev graph : Graph
  graph = graph_in (space_of config table nurseries pool)

  abbrev young : List (Option BlockValue)
  young = young_table g table

  fits : TableFits young
  fits = young_fits table g (sound_fits config table nurseries pool sound)

  short : length young ≤ 65535
  short = omega (arith, length-map table (young_slot g), few_blocks config table nurseries pool sound)

  names : young_names graph g ≡ keys (objects_map young)
  names = young_names-table table g graph (sound_fits config table nurseries pool sound) refl

  pub young_rank : (block : ℕ) → rank_below (small_word block 0) (young_names graph g) ≡ objects_before young block
  young_rank block = ap (rank_below (small_word block 0)) names ∙ rank_is young fits short block

  pub young_count : length (young_names graph g) ≡ sum_by slot_len young
  young_count = ap length names ∙ count_is young fits short

  pub few_young : sum_by slot_len young ≤ 65535 * 512
  few_young = few_objects young fits short

  -- an object of a generation that is collected begins in a block of it
  pub record BeginsYoung (number offset : ℕ) : Type 0 where
    pub ordinal : ℕ
    pub raw : Raw
    pub begins : Begins table number offset ordinal raw
    pub is_young : begins.block.generation ≤ g
    pub among : Begins young number offset ordinal raw

  young_begins : (number offset ordinal : ℕ) (raw : Raw) (begins : Begins table number offset ordinal raw) → begins.block.generation ≤ g → Begins young number offset ordinal raw
  young_begins number offset ordinal raw begins le = record {
    block = begins.block;
    there =
        let yes : nat_le begins.block.generation g ≡ true = grind (arith, nat_tests, le) in
        young_at table g number ∙ ap (young_slot g) begins.there ∙ ap (λ b. cond {A = Option BlockValue} b (Some begins.block) None) yes;
    in_block = begins.in_block;
    at = begins.at;
    is = begins.is;
  }

  pub begins_young : (number offset : ℕ) → offset < 512 → IsYoung graph g (small_word number offset) → BeginsYoung number offset
  begins_young number offset lt is =
      let found : IsBeginning table number offset = begins_at table (sound_fits config table nurseries pool sound) (few_blocks config table nurseries pool sound) number offset lt (rw is.there refl) in
      let shows = some_is (sym is.there ∙ object_found table (sound_fits config table nurseries pool sound) (few_blocks config table nurseries pool sound) number offset found.ordinal found.raw lt found.begins) in
      let le : found.begins.block.generation ≤ g = omega (arith, is.young, ap (λ o. o.generation) shows) in
      record { ordinal = found.ordinal; raw = found.raw; begins = found.begins; is_young = le; among = young_begins number offset found.ordinal found.raw found.begins le }

  -- where the block's generation is collected, so is the object
  pub is_young_there : (number offset ordinal : ℕ) (raw : Raw) → offset < 512 → (begins : Begins table number offset ordinal raw) → begins.block.generation ≤ g → IsYoung graph g (small_word number offset)
  is_young_there number offset ordinal raw lt begins le = record {
    object = _;
    there = object_found table (sound_fits config table nurseries pool sound) (few_blocks config table nurseries pool sound) number offset ordinal raw lt begins;
    young = le;
  }

  pub begins_among : (number offset ordinal : ℕ) (raw : Raw) (begins : Begins table number offset ordinal raw) → begins.block.generation ≤ g → Begins young number offset ordinal raw
  begins_among = young_begins

  pub numbered : (number offset ordinal : ℕ) (raw : Raw) → Begins young number offset ordinal raw → IsNumbered (space_of config table nurseries pool) g (small_word number offset) (objects_before young number + ordinal)
  numbered number offset ordinal raw begins = record {
    in_range = subst (λ ns. objects_before young number + ordinal < length ns) (sym names) (number_in_range young fits short number offset ordinal raw begins);
    is = ap (λ ns. get_or ns (objects_before young number + ordinal) 0) names ∙ number_names young fits short number offset ordinal raw begins;
  }

  pub base_at : (bases : List ℕ) (number offset : ℕ) → AreBases (space_of config table nurseries pool) g bases → offset < 512 → IsYoung graph g (small_word number offset) → (number < length bases) × (get_or bases number 0 ≡ objects_before young number)
  base_at bases number offset are lt is =
      let below = are.covers number offset (omega (arith, lt)) is in
      (below, are.each number below ∙ young_rank number)

  -- where an object of a generation that is collected stands, its block holds one
  young_block : (block offset : ℕ) → offset < 65536 → IsYoung graph g (small_word block offset) → holds_young g (slot_at table block) ≡ true
  young_block block offset lt is = of_slot (slot_at table block) (sym (at_word table (sound_fits config table nurseries pool sound) (few_blocks config table nurseries pool sound) block offset lt) ∙ is.there)
    where
      both : (a b : Bool) → a ≡ true → b ≡ true → (a && b) ≡ true
      both true b h e = e
      both false b h e = h

      some : (word : ℕ) (b : BlockValue) (raws : List Raw) → find nat_cmp (small_word block offset) (objects_from word b.generation b.step raws) ≡ Some is.object → nat_lt 0 (length raws) ≡ true
      some word b [] found = absurd (some_not_none (sym found))
      some word b (r ∷ raws) found = grind (arith, nat_tests)

      of_slot : (slot : Option BlockValue) → find nat_cmp (small_word block offset) (slot_objects block slot) ≡ Some is.object → holds_young g slot ≡ true
      of_slot None found = absurd (some_not_none (sym found))
      of_slot (Some b) found =
          let same : is.object.generation ≡ b.generation = found-generation block (small_word block offset) b is.object found in
          let yes : nat_le b.generation g ≡ true = grind (arith, nat_tests, same, is.young) in
          both _ _ yes (some (small_word block 0) b b.objects found)

  pub are_bases : (bases : List ℕ) → ((b : ℕ) → holds_young g (slot_at table b) ≡ true → b < length bases) → ((b : ℕ) → b < length bases → get_or bases b 0 ≡ objects_before young b) → AreBases (space_of config table nurseries pool) g bases
  are_bases bases covers each = record {
    each = λ block lt. each block lt ∙ sym (young_rank block);
    covers = λ block offset lt is. covers block (young_block block offset lt is);
  }
