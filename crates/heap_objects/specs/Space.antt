-- What contracts see of the blocks of a heap, and what holds of them inside.
use Rattle.std.specs.Prelude.{◌≡◌, ℕ, ◌+◌, ◌*◌, ◌-◌, ◌/◌, ◌<◌, ◌≤◌, Bool, List, map, Option, Some, None, true, slice_get, slice_set, length, option_and_then, All, refl}
use Rattle.std.specs.List.Sorted.{IsStrictlyIncreasing}
use Rattle.std.specs.Ordering.{nat_cmp}
use Rattle.std.specs.FinMap.{FinMap, empty, get, insert, code}
use Rattle.std.specs.Coded.{Coded, code_by, coded×, coded_ℕ, coded_list}
use Rattle.model.specs.Graph.{Graph, Object, fresh_object, size_of}
use Rattle.model.specs.GraphCode.{object_code}
use Rattle.model.specs.Config.{Config, config_code}
use Rattle.model.specs.Destination.{numbers_from, IsStep}
use Rattle.model.specs.Reached.{has}
use Rattle.model.specs.Room.{Room, room_after}
use Rattle.model.specs.Store.{full_rooms}
use Rattle.layout.specs.Place.{small_word}
use Rattle.block_pool.specs.BlockValue.{BlockValue}
use Rattle.block_pool.specs.PoolValue.{PoolValue}
use Rattle.steps.specs.ConfigRange.{IsInRange}
use Rattle.steps.specs.HeapValue.{room_code, nursery_count}
use Rattle.nursery.specs.Areas.{AreAreas, HasRoom}
use Rattle.nursery.specs.Table.{slot_at, objects_map, IsHeapBlock}
use Rattle.nursery.specs.NurseryValue.{NurseryValue, nursery_room, IsNursery}

pub record SpaceValue : Type 0 where
  pub config : Config
  pub objects : FinMap nat_cmp Object
  pub rooms : List Room
  pub free : List ℕ

abbrev pub space_code : Coded SpaceValue
space_code =
    code_by
    (Config × (FinMap nat_cmp Object × (List Room × List ℕ)))
    (coded× config_code (coded× (code coded_ℕ object_code) (coded× (coded_list room_code) (coded_list coded_ℕ))))
    (λ s. (s.config, (s.objects, (s.rooms, s.free))))
    (λ p. record { config = p.0; objects = p.1.0; rooms = p.1.1.0; free = p.1.1.1 })
    (λ _. refl)

-- the pool that its free blocks are of
abbrev pub pool_in : SpaceValue → PoolValue
pool_in space = record { free = space.free; limit = space.config.blocks }

-- its objects, as a graph with no root
abbrev pub graph_in : SpaceValue → Graph
graph_in space = record { objects = space.objects; roots = empty }

-- the room of each mutator's nursery
abbrev pub rooms_of : List NurseryValue → List (Option BlockValue) → List Room
rooms_of nurseries table = map (λ n. nursery_room n table) nurseries

abbrev pub space_of : Config → List (Option BlockValue) → List NurseryValue → PoolValue → SpaceValue
space_of config table nurseries pool = record { config = config; objects = objects_map table; rooms = rooms_of nurseries table; free = pool.free }

-- the nursery of a mutator: so many blocks after those of the mutators before it
pub record IsNurseryOf (config : Config) (table : List (Option BlockValue)) (mutator : ℕ) (nursery : NurseryValue) : Type 0 where
  pub first : nursery.first ≡ mutator * config.nursery_blocks
  pub blocks : nursery.blocks ≡ config.nursery_blocks
  pub sound : IsNursery config.block_words nursery table

-- the first blocks are those of the nurseries, at generation 0 and step 0; every other block that is there holds an
-- object, and isn't free
pub record IsSoundSpace (config : Config) (table : List (Option BlockValue)) (filling : List NurseryValue) (pool : PoolValue) : Type 0 where
  pub in_range : IsInRange config
  pub blocks : (n : ℕ) (block : BlockValue) → slot_at table n ≡ Some block → IsHeapBlock config n block
  pub short : length table ≤ config.blocks
  pub count : length filling ≡ config.mutators
  pub nurseries : (mutator : ℕ) (nursery : NurseryValue) → slice_get filling mutator ≡ Some nursery → IsNurseryOf config table mutator nursery
  pub set_aside : nursery_count config ≤ length table
  pub young : (n : ℕ) (block : BlockValue) → n < nursery_count config → slot_at table n ≡ Some block → (block.generation ≡ 0) × (block.step ≡ 0)
  pub filled : (n : ℕ) (block : BlockValue) → nursery_count config ≤ n → slot_at table n ≡ Some block → 0 < length block.objects
  pub limit : pool.limit ≡ config.blocks
  pub are_free : (n : ℕ) → has pool.free n ≡ true → (nursery_count config ≤ n) × (n < config.blocks) × (slot_at table n ≡ None)

-- the flags are those of the blocks, for each generation of the shape, with room for those of the nurseries
pub record IsFlaggedSpace (config : Config) (table : List (Option BlockValue)) (filling : List NurseryValue) (pool : PoolValue) (areas : List (List Bool)) : Type 0 where
  pub space : IsSoundSpace config table filling pool
  pub flags : AreAreas table areas
  pub generations : length areas ≡ config.shape.generations
  pub room : HasRoom areas (nursery_count config)

-- no object yet: the blocks after those of the nurseries are free
abbrev pub empty_space : Config → SpaceValue
empty_space config =
    record {
      config = config;
      objects = empty;
      rooms = full_rooms config;
      free = numbers_from (nursery_count config) (config.blocks - nursery_count config);
    }

-- the room of a mutator's nursery after a small object of so many words, where it has room
abbrev pub room_in : SpaceValue → ℕ → ℕ → Option Room
room_in space mutator size = option_and_then (λ room. room_after space.config.block_words room size) (slice_get space.rooms mutator)

-- a small object stands at that place
pub record IsPlace (blocks name : ℕ) : Type 0 where
  pub block : ℕ
  pub offset : ℕ
  pub block_in_range : block < blocks
  pub offset_in_range : offset < 512
  pub is : name ≡ small_word block offset

-- a new small object at a new name in a block of a nursery
pub record SpaceAllocates (old : SpaceValue) (mutator p q name : ℕ) (new : SpaceValue) : Type 0 where
  pub room : Room
  pub nursery : IsPlace (nursery_count old.config) name
  pub new_name : get old.objects name ≡ None
  pub has_room : room_in old mutator (1 + p + q) ≡ Some room
  pub change : new ≡ record old { objects = insert old.objects name (fresh_object p q); rooms = slice_set old.rooms mutator room }

-- a room within a nursery
pub record IsRoom (config : Config) (room : Room) : Type 0 where
  pub left : room.left < config.nursery_blocks
  pub used : room.used ≤ config.block_words

-- an object of so many words that stands at a small place ends within its block
abbrev pub EndsInBlock : ℕ → ℕ → ℕ → Type 0
EndsInBlock block_words name size = (block offset : ℕ) → offset < 512 → name ≡ small_word block offset → offset + size ≤ block_words

-- what holds of the blocks of every heap: each object is small, lies within a block and is of a step of the shape; no two
-- overlap, since each ends before the next one begins; a free block is one of the pool's, and no object stands in it
pub record IsSpace (space : SpaceValue) : Type 0 where
  pub in_range : IsInRange space.config
  pub steps : (name : ℕ) (o : Object) → get space.objects name ≡ Some o → IsStep space.config.shape (o.generation, o.step)
  pub small : (name : ℕ) (o : Object) → get space.objects name ≡ Some o → size_of o ≤ space.config.block_words / 4
  pub places : (name : ℕ) (o : Object) → get space.objects name ≡ Some o → IsPlace space.config.blocks name
  pub within : (name : ℕ) (o : Object) → get space.objects name ≡ Some o → EndsInBlock space.config.block_words name (size_of o)
  pub apart : (name next : ℕ) (o p : Object) → get space.objects name ≡ Some o → get space.objects next ≡ Some p → name < next → name + size_of o ≤ next
  pub mutators : length space.rooms ≡ space.config.mutators
  pub rooms : All (IsRoom space.config) space.rooms
  pub rising : IsStrictlyIncreasing space.free
  pub free : (block : ℕ) → has space.free block ≡ true → (nursery_count space.config ≤ block) × (block < space.config.blocks) × ((offset : ℕ) → offset < 65536 → get space.objects (small_word block offset) ≡ None)
