-- What a look into the blocks finds.
use Rattle.std.proofs.Common.{◌≡◌, ℕ, ◌+◌, ◌<◌, ◌≤◌, List, length, get_or, Option, Some, None, refl, sym, ap, subst, ◌∙◌, arith}
use Rattle.std.specs.Prelude.{IsSome, IsSomeAnd, slice_get}
use Rattle.std.specs.Option.{option_map}
use Rattle.std.specs.FinMap.{get}
use Rattle.model.specs.Config.{Config}
use Rattle.model.specs.Graph.{Object}
use Rattle.model.specs.Live.{IsYoung}
use Rattle.model.proofs.Options.{some_is}
use Rattle.layout.specs.ObjectRef.{raw_of}
use Rattle.layout.specs.declared.object.ObjectRef.{ObjectRef}
use Rattle.layout.specs.Place.{small_word, large_word}
use Rattle.block_pool.specs.BlockValue.{BlockValue, BeginsAt, offset_of}
use Rattle.block_pool.specs.PoolValue.{PoolValue}
use Rattle.steps.specs.StepPairs.{step_pair, stands_at}
use Rattle.steps.specs.declared.step_id.StepId.{StepId}
use Rattle.steps.specs.BlockObjects.{object_of}
use Rattle.steps.specs.Words.{IsShownAs, LiesIn}
use Rattle.nursery.specs.Begins.{HasObjectAt}
use Rattle.nursery.specs.Table.{slot_at, objects_before, objects_map, young_table}
use Rattle.nursery.specs.NurseryValue.{NurseryValue}
use Rattle.heap_objects.specs.Space.{IsSoundSpace, space_of, graph_in}
use Rattle.heap_objects.specs.HeapSpaceCollecting.{AreBases, IsNumbered}
use Rattle.heap_objects.proofs.Sound.{sound_fits, few_blocks}
use Rattle.nursery.proofs.Located.{Begins, IsBeginning, begins_at, large_none, object_found}
use Rattle.heap_objects.proofs.YoungNumbers.{is_young_there, begins_among, begins_young, BeginsYoung, numbered, base_at, few_young, young_count}

no_some : (o : Option Object) → o ≡ None → IsSome o → ⊥
no_some None e h = cc
no_some (Some x) e h = cc

-- in the blocks there are no large objects
pub none_there : (config : Config) (table : List (Option BlockValue)) (nurseries : List NurseryValue) (pool : PoolValue) → IsSoundSpace config table nurseries pool → (number : ℕ) → IsSome (get (objects_map table) (large_word number)) → ⊥
none_there config table nurseries pool sound number there =
    no_some _ (large_none table (sound_fits config table nurseries pool sound) (few_blocks config table nurseries pool sound) number) there

module _ (config : Config) (table : List (Option BlockValue)) (nurseries : List NurseryValue) (pool : PoolValue) (sound : IsSoundSpace config table nurseries pool) (number offset : ℕ) (lt : offset < 512)
    (there : IsSome (get (objects_map table) (small_word number offset))) where
  pub beginning : IsBeginning table number offset
  beginning = begins_at table (sound_fits config table nurseries pool sound) (few_blocks config table nurseries pool sound) number offset lt there

  pub begins_there : HasObjectAt table number offset
  begins_there =
      let b = beginning.begins in
      record { block = b.block; ordinal = beginning.ordinal; there = b.there; in_block = b.in_block; at = b.at }

  pub block_there : (block : BlockValue) × (slot_at table number ≡ Some block)
  block_there = (beginning.begins.block, beginning.begins.there)

  -- the block with that number is the one in which the object lies
  pub lies_in : (block : BlockValue) → slot_at table number ≡ Some block → IsSomeAnd (get (objects_map table) (small_word number offset)) (λ o. LiesIn o offset block)
  lies_in block is =
      let b = beginning.begins in
      let same : b.block ≡ block = some_is (sym b.there ∙ is) in
      let found = object_found table (sound_fits config table nurseries pool sound) (few_blocks config table nurseries pool sound) number offset beginning.ordinal beginning.raw lt b in
      subst (λ o. IsSomeAnd o (λ x. LiesIn x offset block)) (sym found)
      (record { raw = beginning.raw; begins = subst (λ x. BeginsAt x offset beginning.raw) same (record { ordinal = beginning.ordinal; within = b.in_block; begins = b.at; there = b.is }); shown = record { pointers = refl; plain = refl } })

  -- where the objects of the block stand, and whether they are collected
  module _ (block : BlockValue) (is : slot_at table number ≡ Some block) where
    same : beginning.begins.block ≡ block
    same = some_is (sym beginning.begins.there ∙ is)

    in_map : get (objects_map table) (small_word number offset) ≡ Some (object_of beginning.begins.block.generation beginning.begins.block.step beginning.raw)
    in_map = object_found table (sound_fits config table nurseries pool sound) (few_blocks config table nurseries pool sound) number offset beginning.ordinal beginning.raw lt beginning.begins

    pub stands_there : Some (block.generation, block.step) ≡ option_map stands_at (get (objects_map table) (small_word number offset))
    stands_there = ap (λ (b : BlockValue). Some (b.generation, b.step)) (sym same) ∙ sym (ap (option_map stands_at) in_map)

    pub too_old : (g : ℕ) → g < block.generation → IsYoung (graph_in (space_of config table nurseries pool)) g (small_word number offset) → ⊥
    too_old g above young =
        let e = some_is (sym young.there ∙ in_map) in
        absurd (omega (arith, young.young, above, ap (λ (b : BlockValue). b.generation) same, ap (λ (o : Object). o.generation) e))

    pub young_enough : (g : ℕ) → block.generation ≤ g → IsYoung (graph_in (space_of config table nurseries pool)) g (small_word number offset)
    young_enough g le = is_young_there config table nurseries pool sound g number offset beginning.ordinal beginning.raw lt beginning.begins (omega (arith, le, ap (λ (b : BlockValue). b.generation) same))

  module _ (object : ObjectRef)
      (read : (block : BlockValue) (k : ℕ) → slot_at table number ≡ Some block → k < length block.objects → offset_of block.objects k ≡ offset → (object.header.ordinal ≡ k) × (slice_get block.objects k ≡ Some (raw_of object))) where
    pub begins : Begins table number offset object.header.ordinal (raw_of object)
    begins =
        let b = beginning.begins in
        let seen = read b.block beginning.ordinal b.there b.in_block b.at in
        rw seen.0 (record { block = b.block; there = b.there; in_block = b.in_block; at = b.at; is = seen.1 })

    found : get (objects_map table) (small_word number offset) ≡ Some (object_of begins.block.generation begins.block.step (raw_of object))
    found = object_found table (sound_fits config table nurseries pool sound) (few_blocks config table nurseries pool sound) number offset object.header.ordinal (raw_of object) lt begins

    pub shown : IsSomeAnd (get (objects_map table) (small_word number offset)) (λ o. IsShownAs o (raw_of object))
    shown = subst (λ o. IsSomeAnd o (λ x. IsShownAs x (raw_of object))) (sym found) (record { pointers = refl; plain = refl })

    module _ (step : StepId) (stands : (block : BlockValue) → slot_at table number ≡ Some block → step_pair step ≡ (block.generation, block.step)) where
      pub at_step : Some (step_pair step) ≡ option_map stands_at (get (objects_map table) (small_word number offset))
      at_step = ap Some (stands begins.block begins.there) ∙ sym (ap (option_map stands_at) found)

      generation_is : step.generation ≡ begins.block.generation
      generation_is = ap (λ p. p.0) (stands begins.block begins.there)

      pub not_young : (g : ℕ) → g < step.generation → IsYoung (graph_in (space_of config table nurseries pool)) g (small_word number offset) → ⊥
      not_young g above young =
          let same = some_is (sym young.there ∙ found) in
          absurd (omega (arith, young.young, above, generation_is, ap (λ o. o.generation) same))

      pub young_here : (g : ℕ) → step.generation ≤ g → IsYoung (graph_in (space_of config table nurseries pool)) g (small_word number offset)
      young_here g le = is_young_there config table nurseries pool sound g number offset object.header.ordinal (raw_of object) lt begins (omega (arith, le, generation_is))

      pub numbered_here : (g : ℕ) → step.generation ≤ g → IsNumbered (space_of config table nurseries pool) g (small_word number offset) (objects_before (young_table g table) number + object.header.ordinal)
      numbered_here g le =
          numbered config table nurseries pool sound g number offset object.header.ordinal (raw_of object)
          (begins_among config table nurseries pool sound g number offset object.header.ordinal (raw_of object) begins (omega (arith, le, generation_is)))

      -- the sum of a base and an ordinal is the number
      pub sum_is : (g : ℕ) (bases : List ℕ) → step.generation ≤ g → AreBases (space_of config table nurseries pool) g bases → (number < length bases) × (get_or bases number 0 + object.header.ordinal ≡ objects_before (young_table g table) number + object.header.ordinal)
      sum_is g bases le are =
          let at = base_at config table nurseries pool sound g bases number offset are lt (young_here g le) in
          (at.0, ap (λ n. n + object.header.ordinal) at.1)

      pub sum_few : (g : ℕ) → step.generation ≤ g → objects_before (young_table g table) number + object.header.ordinal < 4294967296
      sum_few g le = omega (arith, (numbered_here g le).in_range, young_count config table nurseries pool sound g, few_young config table nurseries pool sound g)

module _ (config : Config) (table : List (Option BlockValue)) (nurseries : List NurseryValue) (pool : PoolValue) (sound : IsSoundSpace config table nurseries pool) (g number offset : ℕ) (lt : offset < 512)
    (young : IsYoung (graph_in (space_of config table nurseries pool)) g (small_word number offset)) (bases : List ℕ) (are : AreBases (space_of config table nurseries pool) g bases) (ordinal : ℕ)
    (ordinal_is : (block : BlockValue) (k : ℕ) → slot_at table number ≡ Some block → k < length block.objects → offset_of block.objects k ≡ offset → ordinal ≡ k) where
  here : BeginsYoung config table nurseries pool sound g number offset
  here = begins_young config table nurseries pool sound g number offset lt young

  same_ordinal : ordinal ≡ here.ordinal
  same_ordinal = ordinal_is here.begins.block here.ordinal here.begins.there here.begins.in_block here.begins.at

  base_is : get_or bases number 0 ≡ objects_before (young_table g table) number
  base_is = (base_at config table nurseries pool sound g bases number offset are lt young).1

  pub number_is : IsNumbered (space_of config table nurseries pool) g (small_word number offset) (get_or bases number 0 + ordinal)
  number_is = rw (base_is, same_ordinal) (numbered config table nurseries pool sound g number offset here.ordinal here.raw here.among)

  pub number_few : get_or bases number 0 + ordinal < 4294967296
  number_few = omega (arith, number_is.in_range, young_count config table nurseries pool sound g, few_young config table nurseries pool sound g)
