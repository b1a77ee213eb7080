-- Each object in the blocks stands at a small place.
use Rattle.std.proofs.Common.{◌≡◌, ℕ, ◌+◌, ◌-◌, ◌<◌, List, length, Option, Some, None, sym, ◌∙◌, arith, ⊎_elim, refl}
use Rattle.std.proofs.lemmas.Bool.{cases_lt}
use Rattle.std.specs.Ordering.{nat_cmp}
use Rattle.std.specs.FinMap.{find, get}
use Rattle.model.specs.Config.{Config}
use Rattle.model.specs.Graph.{Object}
use Rattle.layout.specs.Place.{small_word}
use Rattle.block_pool.specs.BlockValue.{BlockValue, used_of}
use Rattle.block_pool.specs.PoolValue.{PoolValue}
use Rattle.nursery.specs.Table.{slot_at, slot_objects, objects_map}
use Rattle.nursery.specs.NurseryValue.{NurseryValue}
use Rattle.heap_objects.specs.Space.{IsSoundSpace, IsPlace}
use Rattle.model.proofs.Finds.{find_above}
use Rattle.heap_objects.proofs.Sound.{sound_fits}
use Rattle.nursery.proofs.TableSteps.{in_list}
use Rattle.nursery.proofs.TableLemmas.{TableFits, IsWordOf, find-at, find-first, word_cases, objects_from-within}
use Rattle.nursery.proofs.TableMap.{get-objects_map}
use Rattle.model.proofs.Options.{some_not_none}

module _ (config : Config) (table : List (Option BlockValue)) (nurseries : List NurseryValue) (pool : PoolValue) (sound : IsSoundSpace config table nurseries pool) where
  fits : TableFits table
  fits = sound_fits config table nurseries pool sound

  place_in : (number name : ℕ) (o : Object) → IsWordOf number name → find nat_cmp name (slot_objects number (slot_at table number)) ≡ Some o → IsPlace config.blocks name
  place_in number name o word is = go (slot_at table number) refl is
    where
      go : (slot : Option BlockValue) → slot_at table number ≡ slot → find nat_cmp name (slot_objects number slot) ≡ Some o → IsPlace config.blocks name
      go None there found = absurd (some_not_none (sym found))
      go (Some block) there found = ⊎_elim
          (λ low.
          let heap_block = sound.blocks number block there in
          let in_table : number < length table = in_list table number block there in
          record {
            block = number;
            offset = name - small_word number 0;
            block_in_range = omega (arith, in_table, sound.short);
            offset_in_range = omega (arith, low, word.low, heap_block.fits, sound.in_range.most_words);
            is = omega (arith, word.low);
          })
          (λ high. absurd (some_not_none (sym found ∙ find_above name _ _ _ (objects_from-within (small_word number 0) block.generation block.step block.objects) high)))
          (cases_lt name (small_word number 0 + used_of block))

  pub each_place : (name : ℕ) (o : Object) → get (objects_map table) name ≡ Some o → IsPlace config.blocks name
  each_place name o is = ⊎_elim
      (λ first. absurd (some_not_none (sym is ∙ get-objects_map table name ∙ find-first table name fits first)))
      (λ at. place_in at.0 name o at.1 (sym (find-at table at.0 name fits at.1) ∙ sym (get-objects_map table name) ∙ is))
      (word_cases name)
