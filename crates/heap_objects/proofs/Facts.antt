-- What holds of the blocks of every heap.
use Rattle.std.proofs.Common.{◌≡◌, ℕ, suc, ◌+◌, ◌<◌, ◌≤◌, List, [], ◌∷◌, length, Option, Some, None, sum_by, refl, sym, ap, ◌∙◌, arith}
use Rattle.std.proofs.lemmas.List.{length-map}
use Rattle.std.proofs.lemmas.List.Elements.{All-cons}
use Rattle.std.specs.Prelude.{slice_get, All}
use Rattle.std.specs.List.Sorted.{IsStrictlyIncreasing}
use Rattle.std.specs.Ordering.{nat_cmp}
use Rattle.std.specs.FinMap.{find, get}
use Rattle.model.specs.Config.{Config}
use Rattle.model.specs.Graph.{Object}
use Rattle.model.proofs.NatMap.{find_same}
use Rattle.model.proofs.Options.{some_not_none}
use Rattle.layout.specs.Object.{Raw, raw_size}
use Rattle.layout.specs.Place.{small_word}
use Rattle.block_pool.specs.BlockValue.{BlockValue}
use Rattle.block_pool.specs.PoolValue.{PoolValue}
use Rattle.steps.specs.HeapValue.{nursery_count}
use Rattle.steps.specs.BlockObjects.{object_of, objects_from}
use Rattle.nursery.specs.Table.{slot_at, slot_objects, slot_words, objects_map}
use Rattle.nursery.proofs.TableCensus.{table-sound}
use Rattle.nursery.specs.NurseryValue.{NurseryValue, nursery_room}
use Rattle.heap_objects.specs.Space.{IsSoundSpace, IsSpace, IsRoom, rooms_of, space_of}
use Rattle.heap_objects.proofs.Sound.{sound_fits, sound_blocks, few_blocks}
use Rattle.nursery.proofs.Located.{no_block, at_word}
use Rattle.heap_objects.proofs.Places.{each_place}
use Rattle.heap_objects.proofs.Lying.{each_within, each_apart}

pub first_object : (number : ℕ) (block : BlockValue) → 0 < length block.objects → (o : Object) × (find nat_cmp (small_word number 0) (slot_objects number (Some block)) ≡ Some o)
first_object number block some = go block.objects some
  where
    go : (raws : List Raw) → 0 < length raws → (o : Object) × (find nat_cmp (small_word number 0) (objects_from (small_word number 0) block.generation block.step raws) ≡ Some o)
    go [] h = absurd (omega (arith, h))
    go (r ∷ raws) h = (object_of block.generation block.step r, find_same (small_word number 0) (object_of block.generation block.step r) _)

module _ (config : Config) (table : List (Option BlockValue)) (nurseries : List NurseryValue) (pool : PoolValue) (sound : IsSoundSpace config table nurseries pool) where
  room_is : (m : ℕ) (n : NurseryValue) → slice_get nurseries m ≡ Some n → IsRoom config (nursery_room n table)
  room_is m n is =
      let was = sound.nurseries m n is in
      let block = was.sound.there n.current was.sound.current in
      let each = was.sound.each n.current block.0 was.sound.current block.1 in
      let used : slot_words (slot_at table (n.first + n.current)) ≡ sum_by raw_size block.0.objects = ap slot_words block.1 in
      record { left = omega (arith, was.sound.current, was.blocks); used = omega (arith, used, each.1) }

  each_room : (ns : List NurseryValue) → ((m : ℕ) (n : NurseryValue) → slice_get ns m ≡ Some n → IsRoom config (nursery_room n table)) → All (IsRoom config) (rooms_of ns table)
  each_room [] each = λ k d lt. absurd (omega (arith, lt))
  each_room (n ∷ ns) each = All-cons (IsRoom config) (nursery_room n table) (rooms_of ns table) (each 0 n refl) (each_room ns (λ m x is. each (suc m) x is))

  pub is_space : IsStrictlyIncreasing pool.free → IsSpace (space_of config table nurseries pool)
  is_space rising = record {
    in_range = sound.in_range;
    steps = λ name o is. (table-sound config table (sound_blocks config table nurseries pool sound) (sound_fits config table nurseries pool sound) name o is).0;
    small = λ name o is. (table-sound config table (sound_blocks config table nurseries pool sound) (sound_fits config table nurseries pool sound) name o is).1;
    places = each_place config table nurseries pool sound;
    within = each_within config table nurseries pool sound;
    apart = each_apart config table nurseries pool sound;
    mutators = length-map nurseries (λ n. nursery_room n table) ∙ sound.count;
    rooms = each_room nurseries room_is;
    rising = rising;
    free = λ block h.
        let free = sound.are_free block h in
        (free.0, free.1, λ offset lt. no_block table (sound_fits config table nurseries pool sound) (few_blocks config table nurseries pool sound) block offset lt free.2);
  }

  -- a block of the pool in which no object stands isn't there
  pub no_slot : (block : ℕ) → nursery_count config ≤ block → ((offset : ℕ) → offset < 512 → get (objects_map table) (small_word block offset) ≡ None) → slot_at table block ≡ None
  no_slot block le none = go (slot_at table block) refl
    where
      go : (slot : Option BlockValue) → slot_at table block ≡ slot → slot_at table block ≡ None
      go None is = is
      go (Some b) is =
          let first = first_object block b (sound.filled block b le is) in
          absurd (some_not_none (sym first.1 ∙ sym (at_word table (sound_fits config table nurseries pool sound) (few_blocks config table nurseries pool sound) block 0 (omega arith) ∙ ap (λ s. find nat_cmp (small_word block 0) (slot_objects block s)) is) ∙ none 0 (omega arith)))
