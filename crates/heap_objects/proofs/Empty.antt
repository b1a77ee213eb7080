-- A heap's blocks when none holds an object.
use Rattle.std.proofs.Common.{◌≡◌, ℕ, zero, suc, ◌+◌, ◌*◌, ◌-◌, ◌<◌, ◌≤◌, List, [], ◌∷◌, length, drop, replicate, Option, Some, None, refl, sym, ap, subst, ◌∙◌, arith}
use Rattle.std.specs.List.{range_with_len}
use Rattle.std.specs.Prelude.{slice_get}
use Rattle.std.specs.Ordering.{nat_cmp}
use Rattle.std.specs.FinMap.{from_entries, empty}
use Rattle.model.specs.Config.{Config}
use Rattle.model.specs.Destination.{numbers_from}
use Rattle.model.proofs.Has.{has_numbers_from}
use Rattle.block_pool.specs.BlockValue.{BlockValue, used_of}
use Rattle.block_pool.specs.PoolValue.{PoolValue, numbers_below}
use Rattle.steps.specs.ConfigRange.{IsInRange}
use Rattle.nursery.specs.Table.{slot_at, table_objects, slot_words, IsHeapBlock}
use Rattle.heap_objects.specs.Nursery.{empty_block}
use Rattle.nursery.specs.NurseryValue.{NurseryValue, nursery_room}
use Rattle.heap_objects.specs.Space.{IsSoundSpace, IsNurseryOf, SpaceValue, space_of, empty_space, rooms_of}
use Rattle.heap_objects.proofs.Sound.{below_all, get_below}
use Rattle.heap_objects.proofs.Shapes.{first_step}
use Rattle.model.proofs.Options.{some_is}
use Rattle.model.specs.Room.{Room, full_room}
use Rattle.model.specs.Store.{full_rooms}
use Rattle.steps.specs.HeapValue.{nursery_count}
use Rattle.nursery.proofs.TableSteps.{get_or_end, in_list}

range-numbers : (a n : ℕ) → range_with_len a n ≡ numbers_from a n
range-numbers a zero = refl
range-numbers a (suc n) = ap (λ xs. a ∷ xs) (range-numbers (a + 1) n)

drop-numbers : (a k n : ℕ) → k ≤ n → drop k (numbers_from a n) ≡ numbers_from (a + k) (n - k)
drop-numbers a zero n le = let none : a + 0 ≡ a = omega arith in let all : n - 0 ≡ n = omega arith in rw (none, all) (drop_none (numbers_from a n))
  where
    drop_none : (xs : List ℕ) → drop 0 xs ≡ xs
    drop_none [] = refl
    drop_none (x ∷ xs) = refl
drop-numbers a (suc k) zero le = absurd (omega arith)
drop-numbers a (suc k) (suc n) le =
    let more : a + suc k ≡ a + 1 + k = omega arith in
    let less : suc n - suc k ≡ n - k = omega arith in
    drop-numbers (a + 1) k n (omega arith) ∙ ap (λ m. numbers_from m (n - k)) (sym more) ∙ ap (numbers_from (a + suc k)) (sym less)

pub free_is : (count blocks : ℕ) → count ≤ blocks → drop count (numbers_below blocks) ≡ numbers_from count (blocks - count)
free_is count blocks le = ap (drop count) (range-numbers 0 blocks) ∙ drop-numbers 0 count blocks le ∙ ap (λ m. numbers_from m (blocks - count)) (let same : 0 + count ≡ count = omega arith in same)

no_objects : (number : ℕ) (table : List (Option BlockValue)) → ((n : ℕ) (block : BlockValue) → slot_at table n ≡ Some block → block.objects ≡ []) → table_objects number table ≡ []
no_objects number [] none = refl
no_objects number (None ∷ table) none = no_objects (number + 1) table (λ n. none (suc n))
no_objects number (Some block ∷ table) none = rw (none 0 block refl) (no_objects (number + 1) table (λ n. none (suc n)))

-- the nurseries' blocks are of generation 0
pub youngest : (table : List (Option BlockValue)) (count words : ℕ) → length table ≡ count → ((n : ℕ) → n < count → slot_at table n ≡ Some (empty_block n words)) → (n : ℕ) (block : BlockValue) → slot_at table n ≡ Some block → block.generation ≡ 0
youngest table count words len slots n block is = ap (λ b. b.generation) (some_is (sym is ∙ slots n (omega (arith, in_list table n block is, len))))

rooms-full : (blocks words : ℕ) (nurseries : List NurseryValue) (table : List (Option BlockValue)) → ((m : ℕ) (n : NurseryValue) → slice_get nurseries m ≡ Some n → nursery_room n table ≡ full_room blocks) → rooms_of nurseries table ≡ replicate (length nurseries) (full_room blocks)
rooms-full blocks words [] table each = refl
rooms-full blocks words (n ∷ nurseries) table each = rw (each 0 n refl) (ap (λ rooms. full_room blocks ∷ rooms) (rooms-full blocks words nurseries table (λ m x is. each (suc m) x is)))

module _ (config : Config) (table : List (Option BlockValue)) (nurseries : List NurseryValue) (pool : PoolValue) (in_range : IsInRange config) (le : nursery_count config ≤ config.blocks)
    (len : length table ≡ nursery_count config) (slots : (n : ℕ) → n < nursery_count config → slot_at table n ≡ Some (empty_block n config.block_words))
    (many : length nurseries ≡ config.mutators) (each : (m : ℕ) → m < config.mutators → slice_get nurseries m ≡ Some (record { first = m * config.nursery_blocks; blocks = config.nursery_blocks; current = 0 }))
    (limit : pool.limit ≡ config.blocks) (free : pool.free ≡ numbers_from (nursery_count config) (config.blocks - nursery_count config)) where
  below : (n : ℕ) (block : BlockValue) → slot_at table n ≡ Some block → n < nursery_count config
  below n block is = omega (arith, in_list table n block is, len)

  block_is : (n : ℕ) (block : BlockValue) → slot_at table n ≡ Some block → block ≡ empty_block n config.block_words
  block_is n block is = some_is (sym is ∙ slots n (below n block is))

  heap_block : (n : ℕ) → IsHeapBlock config n (empty_block n config.block_words)
  heap_block n = record { number_is = refl; words = refl; step = first_step config.shape in_range.some_generation in_range.some_step; fits = omega arith; objects = tt }

  nursery_is : (m : ℕ) (n : NurseryValue) → slice_get nurseries m ≡ Some n → (m < config.mutators) × (record { first = m * config.nursery_blocks; blocks = config.nursery_blocks; current = 0 } ≡ n)
  nursery_is m n is = let lt : m < config.mutators = omega (arith, get_below nurseries m n is, many) in (lt, some_is (sym (each m lt) ∙ is))

  nursery_sound : (m : ℕ) → m < config.mutators → IsNurseryOf config table m (record { first = m * config.nursery_blocks; blocks = config.nursery_blocks; current = 0 })
  nursery_sound m lt = record {
    first = refl;
    blocks = refl;
    sound = record {
      current = omega (arith, in_range.some_nursery);
      there = λ k few. let h = below_all config.mutators config.nursery_blocks m k lt few in (empty_block (m * config.nursery_blocks + k) config.block_words, slots (m * config.nursery_blocks + k) h);
      each = λ k block few is. let e = block_is (m * config.nursery_blocks + k) block is in (ap (λ b. b.words) e, let used : used_of block ≡ 0 = ap used_of e in omega (arith, used));
      later = λ k block above few is. ap (λ b. b.objects) (block_is (m * config.nursery_blocks + k) block is);
    };
  }

  pub empty_sound : IsSoundSpace config table nurseries pool
  empty_sound = record {
    in_range = in_range;
    blocks = λ n block is. subst (IsHeapBlock config n) (sym (block_is n block is)) (heap_block n);
    short = omega (arith, len);
    count = many;
    nurseries = λ m n is. let h = nursery_is m n is in subst (IsNurseryOf config table m) h.1 (nursery_sound m h.0);
    set_aside = omega (arith, len);
    young = λ n block lt is. let e = block_is n block is in (ap (λ b. b.generation) e, ap (λ b. b.step) e);
    filled = λ n block above is. absurd (omega (arith, below n block is));
    limit = limit;
    are_free = λ n h.
        let there = has_numbers_from (nursery_count config) (config.blocks - nursery_count config) n (rw free at h) in
        (there.0, omega (arith, there.1), get_or_end table n None (omega (arith, there.0, len)));
  }

  room_is : (m : ℕ) (n : NurseryValue) → slice_get nurseries m ≡ Some n → nursery_room n table ≡ full_room config.nursery_blocks
  room_is m n is =
      let h = nursery_is m n is in
      let there = below_all config.mutators config.nursery_blocks m 0 h.0 (omega (arith, in_range.some_nursery)) in
      let used : slot_words (slot_at table (m * config.nursery_blocks + 0)) ≡ 0 = ap slot_words (slots (m * config.nursery_blocks + 0) there) in
      let left : config.nursery_blocks - 1 - 0 ≡ config.nursery_blocks - 1 = omega arith in
      sym (ap (λ x. nursery_room x table) h.1)
      ∙ ap (λ u. let r : Room = record { left = config.nursery_blocks - 1 - 0; used = u } in r) used
      ∙ ap (λ l. let r : Room = record { left = l; used = 0 } in r) left

  pub empty_is : space_of config table nurseries pool ≡ empty_space config
  empty_is =
      let objects : from_entries {R = nat_cmp} (table_objects 0 table) ≡ empty = ap (from_entries {R = nat_cmp}) (no_objects 0 table (λ n block is. ap (λ b. b.objects) (block_is n block is))) in
      let rooms : rooms_of nurseries table ≡ full_rooms config = rooms-full config.nursery_blocks config.block_words nurseries table room_is ∙ ap (λ m. replicate m (full_room config.nursery_blocks)) many in
      ap (λ m. let s : SpaceValue = record { config = config; objects = m; rooms = rooms_of nurseries table; free = pool.free } in s) objects
      ∙ ap (λ r. let s : SpaceValue = record { config = config; objects = empty; rooms = r; free = pool.free } in s) rooms
      ∙ ap (λ f. let s : SpaceValue = record { config = config; objects = empty; rooms = full_rooms config; free = f } in s) free
