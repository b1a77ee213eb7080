-- The objects of the blocks after one of them was changed to another of its size.
use Rattle.std.proofs.Common.{◌≡◌, ◌≢◌, ℕ, zero, suc, ◌+◌, ◌-◌, ◌<◌, ◌≤◌, List, [], ◌∷◌, length, set, take, Option, Some, None, refl, sym, ap, subst, ◌∙◌, arith, ⊎_elim, get_or-set_same, get_or-set_other}
use Rattle.std.proofs.lemmas.Bool.{cases_eq}
use Rattle.std.proofs.lemmas.List.{length-set, take-set}
use Rattle.std.proofs.lemmas.List.Sums.{sum_by-cons}
use Rattle.std.specs.Prelude.{slice_get}
use Rattle.std.specs.Ordering.{nat_cmp}
use Rattle.std.specs.FinMap.{find, get, insert}
use Rattle.model.specs.Config.{Config}
use Rattle.model.specs.Room.{Room}
use Rattle.model.specs.Graph.{Object}
use Rattle.model.proofs.NatMap.{find_same, find_other, same_nat_map, get-insert_same, get-insert_other}
use Rattle.layout.specs.Object.{Raw, raw_size}
use Rattle.layout.specs.Place.{small_word}
use Rattle.block_pool.specs.BlockValue.{BlockValue, used_of, words_of, offset_of}
use Rattle.block_pool.specs.PoolValue.{PoolValue}
use Rattle.steps.specs.BlockObjects.{object_of, objects_from}
use Rattle.steps.specs.HeapValue.{nursery_count}
use Rattle.nursery.specs.Table.{slot_at, slot_objects, slot_words, objects_map, AreSmall, IsHeapBlock}
use Rattle.nursery.specs.NurseryValue.{NurseryValue, nursery_room, IsNursery}
use Rattle.heap_objects.specs.Space.{IsSoundSpace, SpaceValue, rooms_of, space_of}
use Rattle.nursery.proofs.BlockFinds.{find-object}
use Rattle.nursery.proofs.Located.{Begins}
use Rattle.heap_objects.proofs.Sound.{sound_fits}
use Rattle.nursery.proofs.TableSteps.{in_list}
use Rattle.nursery.proofs.TableLemmas.{TableFits, IsWordOf, find-at, find-first, object_in, word_cases}
use Rattle.nursery.proofs.TableMap.{get-objects_map, object_in-set_other, object_in-set_same}
use Rattle.model.proofs.Options.{some_is, some_not_none}

-- the sizes stay
words_of-set : (raws : List Raw) (k : ℕ) (raw raw' : Raw) → slice_get raws k ≡ Some raw → raw_size raw' ≡ raw_size raw → words_of (set raws k raw') ≡ words_of raws
words_of-set [] k raw raw' is same = absurd (some_not_none (sym is))
words_of-set (r ∷ raws) zero raw raw' is same =
    let size : raw_size r ≡ raw_size raw = ap raw_size (some_is is) in
    omega (arith, sum_by-cons raw_size r raws, sum_by-cons raw_size raw' raws)
words_of-set (r ∷ raws) (suc k) raw raw' is same =
    omega (arith, sum_by-cons raw_size r raws, sum_by-cons raw_size r (set raws k raw'), words_of-set raws k raw raw' is same)

AreSmall-set : (w : ℕ) (raws : List Raw) (k : ℕ) (raw raw' : Raw) → slice_get raws k ≡ Some raw → raw_size raw' ≡ raw_size raw → AreSmall w raws → AreSmall w (set raws k raw')
AreSmall-set w [] k raw raw' is same small = tt
AreSmall-set w (r ∷ raws) zero raw raw' is same small =
    let size : raw_size r ≡ raw_size raw = ap raw_size (some_is is) in (omega (arith, small.0), small.1)
AreSmall-set w (r ∷ raws) (suc k) raw raw' is same small = (small.0, AreSmall-set w raws k raw raw' is same small.1)

get-set : (raws : List Raw) (k : ℕ) (raw' : Raw) → k < length raws → slice_get (set raws k raw') k ≡ Some raw'
get-set [] k raw' lt = absurd (omega arith)
get-set (r ∷ raws) zero raw' lt = refl
get-set (r ∷ raws) (suc k) raw' lt = get-set raws k raw' (omega arith)

-- what is found in a block after the change
find-set_same : (word g s : ℕ) (raws : List Raw) (k q : ℕ) (raw' : Raw) → k < length raws → word + offset_of raws k ≡ q → find nat_cmp q (objects_from word g s (set raws k raw')) ≡ Some (object_of g s raw')
find-set_same word g s raws k q raw' lt at =
    let stays : offset_of (set raws k raw') k ≡ offset_of raws k = ap words_of (take-set raws k raw') in
    find-object word g s (set raws k raw') k q raw' (get-set raws k raw' lt) (ap (λ n. word + n) stays ∙ at)

find-set_other : (word g s : ℕ) (raws : List Raw) (k q : ℕ) (raw raw' : Raw) → slice_get raws k ≡ Some raw → raw_size raw' ≡ raw_size raw → word + offset_of raws k ≢ q → find nat_cmp q (objects_from word g s (set raws k raw')) ≡ find nat_cmp q (objects_from word g s raws)
find-set_other word g s [] k q raw raw' is same ne = refl
find-set_other word g s (r ∷ raws) zero q raw raw' is same ne =
    let other : q ≢ word = λ e. ne (omega (arith, e)) in
    let size : raw_size raw' ≡ raw_size r = same ∙ sym (ap raw_size (some_is is)) in
    find_other q word (object_of g s raw') _ other ∙ ap (λ n. find nat_cmp q (objects_from (word + n) g s raws)) size ∙ sym (find_other q word (object_of g s r) _ other)
find-set_other word g s (r ∷ raws) (suc k) q raw raw' is same ne =
    ⊎_elim
    (λ e. ap (λ n. find nat_cmp n (objects_from word g s (r ∷ set raws k raw'))) e ∙ find_same word (object_of g s r) _ ∙ sym (ap (λ n. find nat_cmp n (objects_from word g s (r ∷ raws))) e ∙ find_same word (object_of g s r) _))
    (λ other. find_other q word (object_of g s r) _ other ∙ find-set_other (word + raw_size r) g s raws k q raw raw' is same (λ e. ne (omega (arith, e, sum_by-cons raw_size r (take k raws)))) ∙ sym (find_other q word (object_of g s r) _ other))
    (cases_eq q word)

-- the object that is found at a word of a block
record FoundAt (word g s : ℕ) (raws : List Raw) (q : ℕ) (o : Object) : Type 0 where
  pub ordinal : ℕ
  pub raw : Raw
  pub in_block : ordinal < length raws
  pub is : slice_get raws ordinal ≡ Some raw
  pub at : word + offset_of raws ordinal ≡ q
  pub shows : o ≡ object_of g s raw

found_at : (word g s : ℕ) (raws : List Raw) (q : ℕ) (o : Object) → find nat_cmp q (objects_from word g s raws) ≡ Some o → FoundAt word g s raws q o
found_at word g s [] q o found = absurd (some_not_none (sym found))
found_at word g s (r ∷ raws) q o found =
    ⊎_elim
    (λ e. record {
      ordinal = 0;
      raw = r;
      in_block = omega arith;
      is = refl;
      at = omega (arith, e);
      shows = some_is (sym found ∙ ap (λ n. find nat_cmp n (objects_from word g s (r ∷ raws))) e ∙ find_same word (object_of g s r) _);
    })
    (λ ne.
    let rest = found_at (word + raw_size r) g s raws q o (sym (find_other q word (object_of g s r) _ ne) ∙ found) in
    record {
      ordinal = suc rest.ordinal;
      raw = rest.raw;
      in_block = omega (arith, rest.in_block);
      is = rest.is;
      at = omega (arith, rest.at, sum_by-cons raw_size r (take rest.ordinal raws));
      shows = rest.shows;
    })
    (cases_eq q word)

-- an object of the map as one of a block
pub record FoundIn (table : List (Option BlockValue)) (number offset : ℕ) (o : Object) : Type 0 where
  pub ordinal : ℕ
  pub raw : Raw
  pub begins : Begins table number offset ordinal raw
  pub shows : o ≡ object_of begins.block.generation begins.block.step raw

module _ (config : Config) (table : List (Option BlockValue)) (nurseries : List NurseryValue) (pool : PoolValue) (sound : IsSoundSpace config table nurseries pool) where
  fits : TableFits table
  fits = sound_fits config table nurseries pool sound

  pub found_in : (number offset : ℕ) (o : Object) → offset < 512 → get (objects_map table) (small_word number offset) ≡ Some o → FoundIn table number offset o
  found_in number offset o lt is =
      let word : IsWordOf number (small_word number offset) = record { low = omega arith; high = omega arith } in
      go (slot_at table number) refl (sym (find-at table number (small_word number offset) fits word) ∙ sym (get-objects_map table (small_word number offset)) ∙ is)
    where
      go : (slot : Option BlockValue) → slot_at table number ≡ slot → find nat_cmp (small_word number offset) (slot_objects number (slot_at table number)) ≡ Some o → FoundIn table number offset o
      go None there found = absurd (some_not_none (sym found ∙ ap (λ s. find nat_cmp (small_word number offset) (slot_objects number s)) there))
      go (Some block) there found =
          let at = found_at (small_word number 0) block.generation block.step block.objects (small_word number offset) o (sym (ap (λ s. find nat_cmp (small_word number offset) (slot_objects number s)) there) ∙ found) in
          record {
            ordinal = at.ordinal;
            raw = at.raw;
            begins = record { block = block; there = there; in_block = at.in_block; at = omega (arith, at.at); is = at.is };
            shows = at.shows;
          }

  module _ (number offset ordinal : ℕ) (raw raw' : Raw) (lt : offset < 512) (begins : Begins table number offset ordinal raw) (same : raw_size raw' ≡ raw_size raw) where
    abbrev block' : BlockValue
    block' = record begins.block { objects = set begins.block.objects ordinal raw' }

    abbrev new_table : List (Option BlockValue)
    new_table = set table number (Some block')

    pub in_table : number < length table
    in_table = in_list table number begins.block begins.there

    same_slot : slot_at new_table number ≡ Some block'
    same_slot = get_or-set_same table number (Some block') None in_table

    other_slot : (n : ℕ) → n ≢ number → slot_at new_table n ≡ slot_at table n
    other_slot n ne = get_or-set_other table number n (Some block') None ne

    used_stays : used_of block' ≡ used_of begins.block
    used_stays = words_of-set begins.block.objects ordinal raw raw' begins.is same

    new_block : IsHeapBlock config number block'
    new_block =
        let old = sound.blocks number begins.block begins.there in
        record {
          number_is = old.number_is;
          words = old.words;
          step = old.step;
          fits = omega (arith, used_stays, old.fits);
          objects = AreSmall-set config.block_words begins.block.objects ordinal raw raw' begins.is same old.objects;
        }

    none_before : (n : ℕ) → slot_at new_table n ≡ None → slot_at table n ≡ None
    none_before n none = sym (other_slot n (λ e. some_not_none (sym same_slot ∙ sym (ap (slot_at new_table) e) ∙ none))) ∙ none

    none_after : (n : ℕ) → slot_at table n ≡ None → slot_at new_table n ≡ None
    none_after n none = other_slot n (λ e. some_not_none (sym begins.there ∙ sym (ap (slot_at table) e) ∙ none)) ∙ none

    -- each slot has a block with as many words used, and with an object where it had one
    same_used : (n : ℕ) → slot_words (slot_at new_table n) ≡ slot_words (slot_at table n)
    same_used n = ⊎_elim
        (λ e. ap (λ k. slot_words (slot_at new_table k)) e ∙ ap slot_words same_slot ∙ used_stays ∙ sym (ap (λ k. slot_words (slot_at table k)) e ∙ ap slot_words begins.there))
        (λ ne. ap slot_words (other_slot n ne))
        (cases_eq n number)

    changed_nursery : (n : NurseryValue) → IsNursery config.block_words n table → IsNursery config.block_words n new_table
    changed_nursery n was = record {
      current = was.current;
      there = λ k lt. ⊎_elim
          (λ e. (block', ap (slot_at new_table) e ∙ same_slot))
          (λ ne. let b = was.there k lt in (b.0, other_slot (n.first + k) ne ∙ b.1))
          (cases_eq (n.first + k) number);
      each = λ k block lt is. ⊎_elim
          (λ e.
          let this : block' ≡ block = some_is (sym same_slot ∙ sym (ap (slot_at new_table) e) ∙ is) in
          let before = was.each k begins.block lt (ap (slot_at table) e ∙ begins.there) in
          subst (λ b. (b.words ≡ config.block_words) × (used_of b ≤ config.block_words)) this (before.0, omega (arith, used_stays, before.1)))
          (λ ne. was.each k block lt (sym (other_slot (n.first + k) ne) ∙ is))
          (cases_eq (n.first + k) number);
      later = λ k block above lt is. ⊎_elim
          (λ e.
          let empty : begins.block.objects ≡ [] = was.later k begins.block above lt (ap (slot_at table) e ∙ begins.there) in
          absurd (omega (arith, begins.in_block, ap length empty)))
          (λ ne. was.later k block above lt (sym (other_slot (n.first + k) ne) ∙ is))
          (cases_eq (n.first + k) number);
    }

    pub changed_sound : IsSoundSpace config new_table nurseries pool
    changed_sound = record {
      in_range = sound.in_range;
      blocks = λ n block is. ⊎_elim
          (λ e. let this : block' ≡ block = some_is (sym same_slot ∙ sym (ap (slot_at new_table) e) ∙ is) in subst (λ m. IsHeapBlock config m block) (sym e) (subst (IsHeapBlock config number) this new_block))
          (λ ne. sound.blocks n block (sym (other_slot n ne) ∙ is))
          (cases_eq n number);
      short = omega (arith, sound.short, length-set table number (Some block'));
      count = sound.count;
      nurseries = λ i n is. let was = sound.nurseries i n is in record { first = was.first; blocks = was.blocks; sound = changed_nursery n was.sound };
      set_aside = omega (arith, sound.set_aside, length-set table number (Some block'));
      young = λ n block lt is. ⊎_elim
          (λ e.
          let this : block' ≡ block = some_is (sym same_slot ∙ sym (ap (slot_at new_table) e) ∙ is) in
          let was = sound.young number begins.block (subst (λ m. m < nursery_count config) e lt) begins.there in
          (sym (ap (λ b. b.generation) this) ∙ was.0, sym (ap (λ b. b.step) this) ∙ was.1))
          (λ ne. sound.young n block lt (sym (other_slot n ne) ∙ is))
          (cases_eq n number);
      filled = λ n block le is. ⊎_elim
          (λ e.
          let this : block' ≡ block = some_is (sym same_slot ∙ sym (ap (slot_at new_table) e) ∙ is) in
          let same_length : length block.objects ≡ length begins.block.objects = sym (ap (λ b. length b.objects) this) ∙ length-set begins.block.objects ordinal raw' in
          omega (arith, same_length, begins.in_block))
          (λ ne. sound.filled n block le (sym (other_slot n ne) ∙ is))
          (cases_eq n number);
      limit = sound.limit;
      are_free = λ n free. let was = sound.are_free n free in (was.0, was.1, none_after n was.2);
    }

    rooms_stay : rooms_of nurseries new_table ≡ rooms_of nurseries table
    rooms_stay = each nurseries
      where
        each : (ns : List NurseryValue) → rooms_of ns new_table ≡ rooms_of ns table
        each [] = refl
        each (n ∷ ns) =
            let here : nursery_room n new_table ≡ nursery_room n table = ap (λ u. let r : Room = record { left = n.blocks - 1 - n.current; used = u } in r) (same_used (n.first + n.current)) in
            rw here (ap (λ rooms. nursery_room n table ∷ rooms) (each ns))

    fits' : TableFits new_table
    fits' = sound_fits config new_table nurseries pool changed_sound

    changed_at : (q : ℕ) → object_in new_table q ≡ get (insert (objects_map table) (small_word number offset) (object_of begins.block.generation begins.block.step raw')) q
    changed_at q = ⊎_elim
        (λ below.
        let ne : q ≢ small_word number offset = λ e. absurd (omega arith) in
        find-first new_table q fits' below ∙ sym (get-insert_other (objects_map table) (small_word number offset) _ q ne ∙ get-objects_map table q ∙ find-first table q fits below))
        (λ at. ⊎_elim
        (λ this. in_block q (subst (λ n. IsWordOf n q) this at.1))
        (λ other.
        let ne : q ≢ small_word number offset = λ e. absurd (other (omega (arith, e, at.1.low, at.1.high))) in
        object_in-set_other table number at.0 q (Some block') fits fits' at.1 other
        ∙ sym (get-insert_other (objects_map table) (small_word number offset) _ q ne ∙ get-objects_map table q))
        (cases_eq at.0 number))
        (word_cases q)
      where
        in_block : (q : ℕ) → IsWordOf number q → object_in new_table q ≡ get (insert (objects_map table) (small_word number offset) (object_of begins.block.generation begins.block.step raw')) q
        in_block q own =
            object_in-set_same table number q (Some block') fits' own in_table
            ∙ ⊎_elim
            (λ e.
            find-set_same (small_word number 0) begins.block.generation begins.block.step begins.block.objects ordinal q raw' begins.in_block (omega (arith, begins.at, e))
            ∙ sym (ap (get (insert (objects_map table) (small_word number offset) (object_of begins.block.generation begins.block.step raw'))) e ∙ get-insert_same (objects_map table) (small_word number offset) (object_of begins.block.generation begins.block.step raw')))
            (λ ne.
            find-set_other (small_word number 0) begins.block.generation begins.block.step begins.block.objects ordinal q raw raw' begins.is same (λ e. ne (omega (arith, begins.at, e)))
            ∙ sym (get-insert_other (objects_map table) (small_word number offset) _ q ne ∙ get-objects_map table q ∙ find-at table number q fits own ∙ ap (λ s. find nat_cmp q (slot_objects number s)) begins.there))
            (cases_eq q (small_word number offset))

    pub changed_space : space_of config new_table nurseries pool ≡ record (space_of config table nurseries pool) { objects = insert (objects_map table) (small_word number offset) (object_of begins.block.generation begins.block.step raw') }
    changed_space =
        ap (λ m. let s : SpaceValue = record { config = config; objects = m; rooms = rooms_of nurseries new_table; free = pool.free } in s) (same_nat_map _ _ (λ q. get-objects_map new_table q ∙ changed_at q))
        ∙ ap (λ r. let s : SpaceValue = record { config = config; objects = insert (objects_map table) (small_word number offset) (object_of begins.block.generation begins.block.step raw'); rooms = r; free = pool.free } in s) rooms_stay
