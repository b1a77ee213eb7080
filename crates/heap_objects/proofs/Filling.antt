-- A mutator's nursery among those of all.
use Rattle.std.proofs.Common.{Result, Ok, Err, zero, suc, [], ◌∷◌}
use Rattle.std.specs.Prelude.{IfOk, IsSome}
use Rattle.layout.specs.declared.place.Place.{Place}
use Rattle.layout.specs.Place.{place_word}
use Rattle.nursery.specs.declared.filling.NurseryFull.{NurseryFull}
use Rattle.model.proofs.Options.{some_is}
use Rattle.std.proofs.Common.{◌≡◌, ℕ, ◌+◌, ◌/◌, ◌<◌, ◌≤◌, List, get_or, set, Option, Some, refl, sym, ap, subst, ◌∙◌, arith}
use Rattle.std.proofs.lemmas.Option.{slice_get-get_or}
use Rattle.std.specs.Prelude.{slice_get, option_and_then, nat_eq, Bool, ◌&&◌, ◌||◌}
use Rattle.std.specs.FinMap.{insert, get}
use Rattle.model.specs.Config.{Config}
use Rattle.model.specs.Graph.{fresh_object}
use Rattle.model.specs.Room.{room_after}
use Rattle.block_pool.specs.BlockValue.{BlockValue, used_of, new_object}
use Rattle.block_pool.specs.PoolValue.{PoolValue}
use Rattle.steps.specs.BlockObjects.{object_of}
use Rattle.layout.specs.Place.{small_word, large_word}
use Rattle.layout.specs.declared.place.SmallPlace.{SmallPlace}
use Rattle.steps.specs.HeapValue.{nursery_count}
use Rattle.nursery.specs.Areas.{is_flagged, AreAreas}
use Rattle.nursery.specs.Table.{objects_map, with_more}
use Rattle.nursery.proofs.AreaTables.{pushed_areas}
use Rattle.nursery.proofs.TableLemmas.{TableFits}
use Rattle.nursery.proofs.TableMap.{objects_map-push, pushed_new}
use Rattle.nursery.proofs.TableCensus.{map-nil}
use Rattle.nursery.specs.NurseryValue.{NurseryValue, nursery_room, IsNursery, IsSmallIn, Pushes}
use Rattle.heap_objects.specs.Space.{IsSoundSpace, SpaceValue, SpaceAllocates, space_of, room_in, rooms_of}
use Rattle.heap_objects.proofs.Pushing.{get-map}
use Rattle.heap_objects.proofs.Sound.{sound_fits, pushed_sound, pushed_rooms, number_in_table, is_set_aside}

set_there : {X : Type 0} (xs : List X) (m : ℕ) (x : X) → slice_get xs m ≡ Some x → set xs m x ≡ xs
set_there [] m x is = refl
set_there (y ∷ xs) zero x is = let same : y ≡ x = some_is is in ap (λ z. z ∷ xs) (sym same)
set_there (y ∷ xs) (suc m) x is = ap (λ ys. y ∷ ys) (set_there xs m x is)

module _ (config : Config) (table : List (Option BlockValue)) (nurseries : List NurseryValue) (pool : PoolValue) (sound : IsSoundSpace config table nurseries pool) (mutator : ℕ) (n : NurseryValue) (in_range : mutator < config.mutators) (is : n ≡ get_or nurseries mutator n) where
  pub there : slice_get nurseries mutator ≡ Some n
  there = slice_get-get_or nurseries mutator n (omega (arith, in_range, sound.count)) ∙ ap Some (sym is)

  pub own_sound : IsNursery config.block_words n table
  own_sound = (sound.nurseries mutator n there).sound

  pub small_in : (size : ℕ) → size ≤ config.block_words / 4 → IsSmallIn n table size
  small_in size small = record { words = config.block_words; sound = own_sound; small = small }

  pub room_is : (size : ℕ) → room_in (space_of config table nurseries pool) mutator size ≡ room_after config.block_words (nursery_room n table) size
  room_is size = ap (option_and_then (λ room. room_after config.block_words room size)) (get-map (λ x. nursery_room x table) nurseries mutator n there)

  module _ (p q place : ℕ) (new : NurseryValue) (table' : List (Option BlockValue)) (small : 1 + p + q ≤ config.block_words / 4) (push : Pushes config.block_words n table p q place new table') where
    pub now_sound : IsSoundSpace config table' (set nurseries mutator new) pool
    now_sound = pushed_sound config table nurseries pool sound mutator n new there p q place table' small push

    fits_after : TableFits (set table push.number (Some (with_more push.block (new_object p q))))
    fits_after = subst TableFits push.table_is (sound_fits config table' (set nurseries mutator new) pool now_sound)

    word_is : place ≡ small_word push.number 0 + used_of push.block
    word_is = push.place_is ∙ omega arith

    new_is : object_of push.block.generation push.block.step (new_object p q) ≡ fresh_object p q
    new_is =
        let label = sound.young push.number push.block (is_set_aside config table nurseries pool sound mutator n new there p q place table' small push) push.there in
        rw (label.0, label.1, map-nil p) refl

    objects_are : objects_map table' ≡ insert (objects_map table) place (fresh_object p q)
    objects_are =
        ap objects_map push.table_is
        ∙ objects_map-push table push.number push.block (new_object p q) (sound_fits config table nurseries pool sound) fits_after
        (number_in_table config table nurseries pool sound mutator n new there p q place table' small push) push.there (omega (arith, push.fits, sound.in_range.most_words))
        ∙ ap (λ o. insert (objects_map table) (small_word push.number 0 + used_of push.block) o) new_is
        ∙ ap (λ w. insert (objects_map table) w (fresh_object p q)) (sym word_is)

    -- the small place of the new object
    pub small_at : (at : SmallPlace) → place ≡ small_word at.block at.offset → (at.block ≡ push.number) × (at.offset ≡ used_of push.block) × (at.block < nursery_count config)
    small_at at is =
        let aside : push.number < nursery_count config = is_set_aside config table nurseries pool sound mutator n new there p q place table' small push in
        let words : used_of push.block < 512 = omega (arith, push.fits, sound.in_range.most_words) in
        let same : small_word at.block at.offset ≡ small_word push.number (used_of push.block) = sym is ∙ push.place_is in
        let block : at.block ≡ push.number = omega (arith, same, words, at.offset_in_range) in
        (block, omega (arith, same, block), omega (arith, aside, block))

    -- no large object's
    pub not_large : (number : ℕ) → place ≡ large_word number → ⊥
    not_large number is =
        let aside : push.number < nursery_count config = is_set_aside config table nurseries pool sound mutator n new there p q place table' small push in
        absurd (omega (arith, is, push.place_is, aside, push.fits, sound.in_range.most_words, sound.set_aside, sound.short, sound.in_range.most_blocks))

    -- the flags, where the number of the block was put in for its first object
    pub areas_after : (at : SmallPlace) (areas areas' : List (List Bool)) → place ≡ small_word at.block at.offset → ((g m : ℕ) → is_flagged areas' g m ≡ ((nat_eq at.offset 0 && nat_eq m at.block) || is_flagged areas g m)) → AreAreas table areas → AreAreas table' areas'
    areas_after at areas areas' is flags are =
        let it = small_at at is in
        let label = sound.young push.number push.block (is_set_aside config table nurseries pool sound mutator n new there p q place table' small push) push.there in
        rw push.table_is (pushed_areas table push.number at.offset push.block (new_object p q) areas areas' push.there label.0 it.1
        (λ g m. flags g m ∙ ap (λ b. (nat_eq at.offset 0 && nat_eq m b) || is_flagged areas g m) it.0) are)

    pub allocates : SpaceAllocates (space_of config table nurseries pool) mutator p q place (space_of config table' (set nurseries mutator new) pool)
    allocates = record {
      room = nursery_room new table';
      nursery = record {
        block = push.number;
        offset = used_of push.block;
        block_in_range = is_set_aside config table nurseries pool sound mutator n new there p q place table' small push;
        offset_in_range = omega (arith, push.fits, sound.in_range.most_words);
        is = push.place_is;
      };
      new_name = ap (get (objects_map table)) word_is ∙ pushed_new table push.number push.block (new_object p q) (sound_fits config table nurseries pool sound) fits_after
          (number_in_table config table nurseries pool sound mutator n new there p q place table' small push) push.there (omega (arith, push.fits, sound.in_range.most_words));
      has_room = room_is (1 + p + q) ∙ push.room;
      change =
          ap (λ m. let s : SpaceValue = record { config = config; objects = m; rooms = rooms_of (set nurseries mutator new) table'; free = pool.free } in s) objects_are
          ∙ ap (λ r. let s : SpaceValue = record { config = config; objects = insert (objects_map table) place (fresh_object p q); rooms = r; free = pool.free } in s) (pushed_rooms config table nurseries pool sound mutator n new there p q place table' small push);
    }

  -- whether or not there was room the blocks are sound
  module _ (p q : ℕ) (new : NurseryValue) (table' : List (Option BlockValue)) (small : 1 + p + q ≤ config.block_words / 4) where
    pub stays : (new ≡ n) × (table' ≡ table) → set nurseries mutator new ≡ nurseries
    stays same = ap (set nurseries mutator) same.0 ∙ set_there nurseries mutator n there

    pub room_after_is : (result : Result Place NurseryFull) → IfOk result (λ place. Pushes config.block_words n table p q (place_word place) new table') → (place : Place) → result ≡ Ok place → IsSome (room_in (space_of config table nurseries pool) mutator (1 + p + q))
    room_after_is (Ok x) ok place is = subst (λ r. IsSome r) (sym (room_is (1 + p + q) ∙ ok.room)) refl
    room_after_is (Err e) ok place is = absurd (cc)
