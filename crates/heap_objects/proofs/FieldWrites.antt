-- A field of an object written in the blocks is written in the map of objects.
use Rattle.std.proofs.Common.{◌≡◌, ℕ, ◌<◌, Bool, true, cond, List, length, map, set, Option, Some, None, refl, sym, ap, ◌∙◌, arith}
use Rattle.std.proofs.lemmas.Bool.Decides.{nat_tests}
use Rattle.std.proofs.lemmas.List.{length-set, map-set}
use Rattle.std.specs.Prelude.{slice_get, nat_lt, IsSomeAnd}
use Rattle.std.specs.Option.{option_map}
use Rattle.std.specs.FinMap.{get, insert}
use Rattle.model.proofs.Options.{some_is}
use Rattle.model.specs.Config.{Config}
use Rattle.model.specs.Graph.{Object, with_pointer}
use Rattle.layout.specs.Object.{Raw, raw_size}
use Rattle.layout.specs.declared.place.Place.{Place}
use Rattle.layout.specs.declared.place.Place.TheVariants.{Small, Large}
use Rattle.layout.specs.Place.{small_word, place_word, pointer_word}
use Rattle.block_pool.specs.BlockValue.{BlockValue, offset_of, with_pointer_word, with_plain_word}
use Rattle.block_pool.specs.PoolValue.{PoolValue}
use Rattle.steps.specs.BlockObjects.{object_of}
use Rattle.nursery.specs.Table.{slot_at, objects_map}
use Rattle.nursery.proofs.AreaTables.{SameYoung, set_young}
use Rattle.nursery.specs.NurseryValue.{NurseryValue}
use Rattle.heap_objects.specs.Space.{IsSoundSpace, space_of}
use Rattle.steps.specs.Words.{target_of_word}
use Rattle.std.proofs.lemmas.List.{length-map}
use Rattle.nursery.proofs.Located.{object_found}
use Rattle.heap_objects.proofs.Sound.{sound_fits, few_blocks}
use Rattle.heap_objects.proofs.Changed.{FoundIn, found_in, changed_sound, changed_space}

-- the value of which something is said
pub some_and : {X : Type 0} (P : X → Type 0) (o : Option X) → IsSomeAnd o P → (x : X) × (o ≡ Some x) × P x
some_and P None h = absurd (h)
some_and P (Some x) h = (x, refl, h)

-- a pointer is read back from its word
target_of_positive : (n : ℕ) → 0 < n → target_of_word n ≡ Some n
target_of_positive n lt = let yes : nat_lt 0 n ≡ true = grind (arith, nat_tests, lt) in ap (λ (b : Bool). cond b (Some n) None) yes

place_word-positive : (place : Place) → 0 < place_word place
place_word-positive (Small at) = omega arith
place_word-positive (Large of) = omega arith

pub target_of_pointer : (target : Option Place) → target_of_word (pointer_word target) ≡ option_map place_word target
target_of_pointer None = refl
target_of_pointer (Some place) = target_of_positive (place_word place) (place_word-positive place)

-- the space after the object of a name was changed
pub record IsChanged (config : Config) (table table' : List (Option BlockValue)) (nurseries : List NurseryValue) (pool : PoolValue) (name : ℕ) (new : Object) : Type 0 where
  pub sound : IsSoundSpace config table' nurseries pool
  pub young : SameYoung table table'
  pub space_is : space_of config table' nurseries pool ≡ record (space_of config table nurseries pool) { objects = insert (objects_map table) name new }

-- the table after a raw object was changed
abbrev pub WritesRaw : List (Option BlockValue) → List (Option BlockValue) → (number offset : ℕ) → (Raw → Raw) → Type 0
WritesRaw table table' number offset change =
    (block : BlockValue) (k : ℕ) (raw : Raw) → slot_at table number ≡ Some block → k < length block.objects → offset_of block.objects k ≡ offset → slice_get block.objects k ≡ Some raw
    → table' ≡ set table number (Some (record block { objects = set block.objects k (change raw) }))

module _ (config : Config) (table : List (Option BlockValue)) (nurseries : List NurseryValue) (pool : PoolValue) (sound : IsSoundSpace config table nurseries pool) (number offset : ℕ) (lt : offset < 512) (o : Object) (is : get (objects_map table) (small_word number offset) ≡ Some o) where
  -- what begins there has the fields of the object
  shows_there : (block : BlockValue) (k : ℕ) (raw : Raw) → slot_at table number ≡ Some block → k < length block.objects → offset_of block.objects k ≡ offset → slice_get block.objects k ≡ Some raw → o ≡ object_of block.generation block.step raw
  shows_there block k raw there within at it =
      some_is (sym is ∙ object_found table (sound_fits config table nurseries pool sound) (few_blocks config table nurseries pool sound) number offset k raw lt (record { block = block; there = there; in_block = within; at = at; is = it }))

  pub pointer_there : (i : ℕ) → i < length o.pointers → (block : BlockValue) (k : ℕ) (raw : Raw) → slot_at table number ≡ Some block → k < length block.objects → offset_of block.objects k ≡ offset → slice_get block.objects k ≡ Some raw → i < length raw.pointers
  pointer_there i few block k raw there within at it =
      omega (arith, few, ap (λ (x : Object). length x.pointers) (shows_there block k raw there within at it), length-map raw.pointers target_of_word)

  pub plain_there : (i : ℕ) → i < length o.plain → (block : BlockValue) (k : ℕ) (raw : Raw) → slot_at table number ≡ Some block → k < length block.objects → offset_of block.objects k ≡ offset → slice_get block.objects k ≡ Some raw → i < length raw.plain
  plain_there i few block k raw there within at it =
      omega (arith, few, ap (λ (x : Object). length x.plain) (shows_there block k raw there within at it))

  module _ (table' : List (Option BlockValue)) where
    changed : (change : Raw → Raw) (new : Object) → WritesRaw table table' number offset change → ((g s : ℕ) (raw : Raw) → o ≡ object_of g s raw → (raw_size (change raw) ≡ raw_size raw) × (object_of g s (change raw) ≡ new)) → IsChanged config table table' nurseries pool (small_word number offset) new
    changed change new writes each =
        let found : FoundIn table number offset o = found_in config table nurseries pool sound number offset o lt is in
        let raw = found.raw in
        let begins = found.begins in
        let about = each begins.block.generation begins.block.step raw found.shows in
        let table_is : table' ≡ set table number (Some (record begins.block { objects = set begins.block.objects found.ordinal (change raw) })) = writes begins.block found.ordinal raw begins.there begins.in_block begins.at begins.is in
        rw table_is (record {
          sound = changed_sound config table nurseries pool sound number offset found.ordinal raw (change raw) lt begins about.0;
          young = set_young table number begins.block (record begins.block { objects = set begins.block.objects found.ordinal (change raw) }) begins.there refl (length-set begins.block.objects found.ordinal (change raw));
          space_is =
              changed_space config table nurseries pool sound number offset found.ordinal raw (change raw) lt begins about.0
              ∙ ap (λ (x : Object). record (space_of config table nurseries pool) { objects = insert (objects_map table) (small_word number offset) x }) about.1;
        })

    pub pointer_written : (i word : ℕ) (target : Option Place) → word ≡ pointer_word target → WritesRaw table table' number offset (λ raw. with_pointer_word raw i word) → IsChanged config table table' nurseries pool (small_word number offset) (with_pointer o i (option_map place_word target))
    pointer_written i word target word_is writes =
        changed (λ raw. with_pointer_word raw i word) (with_pointer o i (option_map place_word target)) writes
        (λ g s raw shows.
        let read : target_of_word word ≡ option_map place_word target = ap target_of_word word_is ∙ target_of_pointer target in (
          omega (arith, length-set raw.pointers i word),
          ap (λ (ps : List (Option ℕ)). let x : Object = record { pointers = ps; plain = raw.plain; generation = g; step = s } in x) (map-set target_of_word raw.pointers i word ∙ ap (set (map target_of_word raw.pointers) i) read)
              ∙ sym (ap (λ (x : Object). with_pointer x i (option_map place_word target)) shows),
        ))

    pub plain_written : (i word : ℕ) → WritesRaw table table' number offset (λ raw. with_plain_word raw i word) → IsChanged config table table' nurseries pool (small_word number offset) (record o { plain = set o.plain i word })
    plain_written i word writes =
        changed (λ raw. with_plain_word raw i word) (record o { plain = set o.plain i word }) writes
        (λ g s raw shows. (
          omega (arith, length-set raw.plain i word),
          sym (ap (λ (x : Object). let y : Object = record x { plain = set x.plain i word } in y) shows),
        ))
