-- What there is after blocks took the place of what is collected.
use Rattle.std.proofs.Common.{◌≡◌, ℕ, zero, suc, ◌+◌, ◌-◌, ◌<◌, ◌≤◌, Bool, true, false, cond, ◌||◌, ◌&&◌, not, List, [], ◌∷◌, length, map, replicate, Option, Some, None, sum_by, refl, sym, ap, subst, ◌∙◌, arith, ⊎_elim, ◌⊎◌, inl, inr}
use Rattle.std.proofs.lemmas.Bool.{cases_lt, true≢false, or_left, or_right}
use Rattle.std.proofs.lemmas.Bool.Decides.{nat_tests}
use Rattle.std.proofs.lemmas.List.{length-map}
use Rattle.std.specs.Prelude.{is_some, nat_le, nat_lt, slice_get}
use Rattle.std.specs.Ordering.{nat_cmp, eq_by_cmp}
use Rattle.std.specs.FinMap.{find, get}
use Rattle.model.specs.Config.{Config}
use Rattle.model.specs.Graph.{Object}
use Rattle.model.specs.Reached.{has}
use Rattle.model.specs.Room.{Room, full_room}
use Rattle.model.proofs.Options.{some_is, some_not_none}
use Rattle.block_pool.specs.BlockValue.{BlockValue, used_of}
use Rattle.block_pool.specs.PoolValue.{PoolValue}
use Rattle.layout.specs.Object.{Raw, raw_size}
use Rattle.layout.specs.Place.{small_word}
use Rattle.steps.specs.HeapValue.{nursery_count}
use Rattle.steps.specs.BlockObjects.{object_of, objects_from, copies_of}
use Rattle.nursery.specs.Areas.{holds_young}
use Rattle.nursery.specs.Installed.{installed}
use Rattle.nursery.specs.Table.{slot_at, slot_objects, cleared, slot_words, objects_map, young_slot, IsHeapBlock}
use Rattle.nursery.specs.NurseryValue.{NurseryValue, nursery_room}
use Rattle.heap_objects.specs.Nursery.{from_first}
use Rattle.heap_objects.specs.Space.{IsSoundSpace, IsNurseryOf, space_of, rooms_of}
use Rattle.heap_objects.specs.HeapSpaceCollecting.{CanReplace, IsReplaced, StandsYoung, HoldsNone}
use Rattle.heap_objects.proofs.Facts.{first_object}
use Rattle.nursery.proofs.TableLemmas.{TableFits, IsWordOf, word_cases, find-at, find-first}
use Rattle.nursery.proofs.TableMap.{get-objects_map}
use Rattle.nursery.proofs.Installed.{installed-all, installed-some, each_fits, find-copies, find-copies_first, EachFits}
use Rattle.nursery.proofs.TableSteps.{in_list}
use Rattle.heap_objects.proofs.Sound.{sound_fits, below_all, get_below}
use Rattle.heap_objects.proofs.GrownTable.{some_or_none, older_slot, Goes, both_of, both, young_some, young_filled, gone_there}

-- a block with the number, the label and the words of another, and no object
pub record IsEmptied (old new : BlockValue) : Type 0 where
  pub number : new.number ≡ old.number
  pub generation : new.generation ≡ old.generation
  pub step : new.step ≡ old.step
  pub words : new.words ≡ old.words
  pub objects : new.objects ≡ []

no_objects : (raws : List Raw) → nat_lt 0 (length raws) ≡ false → raws ≡ []
no_objects [] h = refl
no_objects (r ∷ raws) h = absurd (let some : nat_lt 0 (length (r ∷ raws)) ≡ true = grind (arith, nat_tests) in true≢false (sym some ∙ h))

-- a block of a nursery is emptied where it holds an object, and else it holds none
emptied_slot : (g : ℕ) (b : BlockValue) → b.generation ≡ 0 → (block : BlockValue) × (cond (holds_young g (Some b)) (cleared (Some b)) (Some b) ≡ Some block) × IsEmptied b block
emptied_slot g b youngest = go (nat_lt 0 (length b.objects)) refl
  where
    young : nat_le b.generation g ≡ true
    young = grind (arith, nat_tests, youngest)

    go : (t : Bool) → nat_lt 0 (length b.objects) ≡ t → (block : BlockValue) × (cond (holds_young g (Some b)) (cleared (Some b)) (Some b) ≡ Some block) × IsEmptied b block
    go true is = (
      record b { objects = []; front = 0; sent = None; origins = [] },
      ap (λ t. cond t (cleared (Some b)) (Some b)) (both _ _ young is),
      record { number = refl; generation = refl; step = refl; words = refl; objects = refl },
    )
    go false is = (
      b,
      ap (λ t. cond (t && nat_lt 0 (length b.objects)) (cleared (Some b)) (Some b)) young ∙ ap (λ t. cond (true && t) (cleared (Some b)) (Some b)) is,
      record { number = refl; generation = refl; step = refl; words = refl; objects = no_objects b.objects is },
    )

-- what is found of an older object
find-generation : (word generation step : ℕ) (raws : List Raw) (q : ℕ) (o : Object) → find nat_cmp q (objects_from word generation step raws) ≡ Some o → o.generation ≡ generation
find-generation word generation step [] q o is = absurd (cc)
find-generation word generation step (r ∷ raws) q o is = go (eq_by_cmp nat_cmp q word) (find-generation (word + raw_size r) generation step raws q o) is
  where
    go : (b : Bool) → (find nat_cmp q (objects_from (word + raw_size r) generation step raws) ≡ Some o → o.generation ≡ generation) → cond b (Some (object_of generation step r)) (find nat_cmp q (objects_from (word + raw_size r) generation step raws)) ≡ Some o → o.generation ≡ generation
    go true rest e = let same : object_of generation step r ≡ o = some_is e in sym (ap (λ x. x.generation) same)
    go false rest e = rest e

module _ (config : Config) (old new : List (Option BlockValue)) (nurseries : List NurseryValue) (pool pool' : PoolValue) (g : ℕ) (gone : List ℕ) (blocks : List BlockValue)
    (sound : IsSoundSpace config old nurseries pool)
    (can : CanReplace (space_of config old nurseries pool) blocks)
    (goes : Goes g old gone)
    (short : length new ≤ config.blocks)
    (longer : length old ≤ length new)
    (slots : (n : ℕ) → slot_at new n ≡ cond (is_some (installed blocks n)) (installed blocks n) (cond (has gone n) (cond (nat_lt n (nursery_count config)) (cleared (slot_at old n)) None) (slot_at old n)))
    (frees : (n : ℕ) → has pool'.free n ≡ (((nat_le (nursery_count config) n && has gone n) || has pool.free n) && not (is_some (installed blocks n))))
    (limit : pool'.limit ≡ pool.limit) where
  -- an installed block was free
  was_free : (n : ℕ) (block : BlockValue) → installed blocks n ≡ Some block → has pool.free n ≡ true
  was_free n block is =
      let found = installed-all (λ b. has pool.free b.number ≡ true) blocks n block can.were_free is in
      subst (λ m. has pool.free m ≡ true) found.1 found.0

  none_below : (n : ℕ) → n < nursery_count config → installed blocks n ≡ None
  none_below n lt = go (some_or_none (installed blocks n))
    where
      go : ((block : BlockValue) × (installed blocks n ≡ Some block)) ⊎ (installed blocks n ≡ None) → installed blocks n ≡ None
      go (inl found) = let free = sound.are_free n (was_free n found.0 found.1) in absurd (omega (arith, free.0))
      go (inr none) = none

  slot_below : (n : ℕ) → n < nursery_count config → slot_at new n ≡ cond (holds_young g (slot_at old n)) (cleared (slot_at old n)) (slot_at old n)
  slot_below n lt =
      let test : nat_lt n (nursery_count config) ≡ true = grind (arith, nat_tests, lt) in
      slots n
      ∙ ap (λ o. cond (is_some o) o (cond (has gone n) (cond (nat_lt n (nursery_count config)) (cleared (slot_at old n)) None) (slot_at old n))) (none_below n lt)
      ∙ ap (λ t. cond t (cond (nat_lt n (nursery_count config)) (cleared (slot_at old n)) None) (slot_at old n)) (goes n)
      ∙ ap (λ t. cond (holds_young g (slot_at old n)) (cond t (cleared (slot_at old n)) None) (slot_at old n)) test

  -- a block of a nursery is there still, and empty
  below_there : (n : ℕ) (b : BlockValue) → n < nursery_count config → slot_at old n ≡ Some b → (block : BlockValue) × (slot_at new n ≡ Some block) × IsEmptied b block
  below_there n b lt is =
      let it = emptied_slot g b (sound.young n b lt is).0 in
      (it.0, slot_below n lt ∙ ap (λ o. cond (holds_young g o) (cleared o) o) is ∙ it.1, it.2)

  below_is : (n : ℕ) (block : BlockValue) → n < nursery_count config → slot_at new n ≡ Some block → (b : BlockValue) × (slot_at old n ≡ Some b) × IsEmptied b block
  below_is n block lt is = go (some_or_none (slot_at old n))
    where
      go : ((b : BlockValue) × (slot_at old n ≡ Some b)) ⊎ (slot_at old n ≡ None) → (b : BlockValue) × (slot_at old n ≡ Some b) × IsEmptied b block
      go (inl found) = let it = below_there n found.0 lt found.1 in (found.0, found.1, subst (IsEmptied found.0) (some_is (sym it.1 ∙ is)) it.2)
      go (inr none) = absurd (some_not_none (sym is ∙ slot_below n lt ∙ ap (λ o. cond (holds_young g o) (cleared o) o) none))

  above_filled : (n : ℕ) → nursery_count config ≤ n → holds_young g (slot_at old n) ≡ is_some (young_slot g (slot_at old n))
  above_filled n le = young_filled g (slot_at old n) (λ block is. sound.filled n block le is)

  pub slot_above : (n : ℕ) → nursery_count config ≤ n → slot_at new n ≡ cond (is_some (installed blocks n)) (installed blocks n) (older_slot g (slot_at old n))
  slot_above n le =
      let test : nat_lt n (nursery_count config) ≡ false = grind (arith, nat_tests, le) in
      let here : has gone n ≡ is_some (young_slot g (slot_at old n)) = goes n ∙ above_filled n le in
      slots n
      ∙ ap (λ t. cond (is_some (installed blocks n)) (installed blocks n) (cond (has gone n) (cond t (cleared (slot_at old n)) None) (slot_at old n))) test
      ∙ ap (λ t. cond (is_some (installed blocks n)) (installed blocks n) (cond t None (slot_at old n))) here

  pub slot_installed : (n : ℕ) (block : BlockValue) → installed blocks n ≡ Some block → slot_at new n ≡ Some block
  slot_installed n block is =
      let free = sound.are_free n (was_free n block is) in
      slot_above n free.0 ∙ ap (λ o. cond (is_some o) o (older_slot g (slot_at old n))) is

  pub slot_stays : (n : ℕ) → nursery_count config ≤ n → installed blocks n ≡ None → slot_at new n ≡ older_slot g (slot_at old n)
  slot_stays n le none = slot_above n le ∙ ap (λ o. cond (is_some o) o (older_slot g (slot_at old n))) none

  above_it : (n : ℕ) → (n < nursery_count config) ⊎ (nursery_count config ≤ n)
  above_it n = cases_lt n (nursery_count config)

  older_is : (o : Option BlockValue) (block : BlockValue) → older_slot g o ≡ Some block → (o ≡ Some block) × (g < block.generation)
  older_is None block is = absurd (cc)
  older_is (Some b) block is = go (nat_le b.generation g) refl is
    where
      go : (t : Bool) → nat_le b.generation g ≡ t → cond (is_some (cond {A = Option BlockValue} t (Some b) None)) None (Some b) ≡ Some block → (Some b ≡ Some block) × (g < block.generation)
      go true le e = absurd (cc)
      go false le e = let same : b ≡ block = some_is e in let lt : g < b.generation = grind (arith, nat_tests, le) in (e, subst (λ x. g < x.generation) same lt)

  -- a block that is there now: one of the nurseries', a new one, or an older one
  pub data Now (n : ℕ) (block : BlockValue) : Type 0 where
    emptied : n < nursery_count config → (b : BlockValue) → slot_at old n ≡ Some b → IsEmptied b block → Now n block
    put_in : nursery_count config ≤ n → installed blocks n ≡ Some block → Now n block
    kept : nursery_count config ≤ n → slot_at old n ≡ Some block → g < block.generation → Now n block

  pub now : (n : ℕ) (block : BlockValue) → slot_at new n ≡ Some block → Now n block
  now n block is = ⊎_elim
      (λ lt. let was = below_is n block lt is in emptied lt was.0 was.1 was.2)
      (λ le. ⊎_elim
      (λ found. put_in le (found.1 ∙ sym (slot_installed n found.0 found.1) ∙ is))
      (λ none. let older = older_is (slot_at old n) block (sym (slot_stays n le none) ∙ is) in kept le older.0 older.1)
      (some_or_none (installed blocks n)))
      (above_it n)

  unused : (block : BlockValue) → block.objects ≡ [] → used_of block ≡ 0
  unused block none = ap (λ raws. sum_by raw_size raws) none

  emptied_block : (n : ℕ) (b block : BlockValue) → IsEmptied b block → IsHeapBlock config n b → IsHeapBlock config n block
  emptied_block n b block e was = record {
    number_is = e.number ∙ was.number_is;
    words = e.words ∙ was.words;
    step = rw (e.generation, e.step) was.step;
    fits = omega (arith, unused block e.objects);
    objects = rw e.objects tt;
  }

  installed_sound : (n : ℕ) (block : BlockValue) → installed blocks n ≡ Some block → IsHeapBlock config n block
  installed_sound n block is =
      let found = installed-all (λ b. (b.objects ≡ []) ⊎ IsHeapBlock config b.number b) blocks n block can.sound is in
      subst (λ m. IsHeapBlock config m block) found.1 (⊎_elim (λ e. absurd (installed-some blocks n block is e)) (λ h. h) found.0)

  objects_some : (raws : List Raw) → (raws ≡ [] → ⊥) → 0 < length raws
  objects_some [] h = absurd (h refl)
  objects_some (r ∷ raws) h = omega arith

  emptied_nursery : (m : ℕ) (n : NurseryValue) → slice_get nurseries m ≡ Some n → (k : ℕ) → k < n.blocks → (b : BlockValue) × (slot_at old (n.first + k) ≡ Some b) × ((block : BlockValue) × (slot_at new (n.first + k) ≡ Some block) × IsEmptied b block)
  emptied_nursery m n is k lt =
      let was = sound.nurseries m n is in
      let below = below_all config.mutators config.nursery_blocks m k (omega (arith, get_below nurseries m n is, sound.count)) (omega (arith, was.blocks)) in
      let inside : n.first + k < nursery_count config = omega (arith, below, was.first) in
      let there = was.sound.there k lt in
      (there.0, there.1, below_there (n.first + k) there.0 inside there.1)

  reset_nursery : (m : ℕ) (n : NurseryValue) → slice_get nurseries m ≡ Some n → IsNurseryOf config new m (record n { current = 0 })
  reset_nursery m n is =
      let was = sound.nurseries m n is in
      record {
        first = was.first;
        blocks = was.blocks;
        sound = record {
          current = omega (arith, was.sound.current);
          there = λ k lt. let e = emptied_nursery m n is k lt in (e.2.0, e.2.1);
          each = λ k block lt at.
              let e = emptied_nursery m n is k lt in
              let same : e.2.0 ≡ block = some_is (sym e.2.1 ∙ at) in
              let empty : IsEmptied e.0 block = subst (IsEmptied e.0) same e.2.2 in
              let before = was.sound.each k e.0 lt e.1 in
              (empty.words ∙ before.0, omega (arith, unused block empty.objects));
          later = λ k block above lt at.
              let e = emptied_nursery m n is k lt in
              let same : e.2.0 ≡ block = some_is (sym e.2.1 ∙ at) in
              (subst (IsEmptied e.0) same e.2.2).objects;
        };
      }

  get-map : (ns : List NurseryValue) (m : ℕ) (n : NurseryValue) → slice_get (map from_first ns) m ≡ Some n → (x : NurseryValue) × (slice_get ns m ≡ Some x) × (record x { current = 0 } ≡ n)
  get-map [] m n is = absurd (cc)
  get-map (x ∷ ns) zero n is = (x, refl, some_is is)
  get-map (x ∷ ns) (suc m) n is = get-map ns m n is

  abbrev pub reset : List NurseryValue
  reset = map from_first nurseries

  gone_short : (n : ℕ) → has gone n ≡ true → n < config.blocks
  gone_short n h = let there = gone_there old g gone goes n h in omega (arith, in_list old n there.0 there.1, sound.short)

  and_not : (a b : Bool) → (a && not b) ≡ true → (a ≡ true) × (b ≡ false)
  and_not true false h = (refl, refl)
  and_not true true h = absurd (cc)
  and_not false b h = absurd (cc)

  either_of : (a b : Bool) → (a || b) ≡ true → (a ≡ true) ⊎ (b ≡ true)
  either_of true b h = inl refl
  either_of false b h = inr h

  none_of : (o : Option BlockValue) → is_some o ≡ false → o ≡ None
  none_of None h = refl
  none_of (Some b) h = absurd (cc)

  gone_older : (n : ℕ) → nursery_count config ≤ n → has gone n ≡ true → older_slot g (slot_at old n) ≡ None
  gone_older n le h = ap (λ t. cond t None (slot_at old n)) (sym (above_filled n le) ∙ sym (goes n) ∙ h)

  -- a number that is given back is past the nurseries
  given_back : (n : ℕ) → (nat_le (nursery_count config) n && has gone n) ≡ true → (nursery_count config ≤ n) × (has gone n ≡ true)
  given_back n h =
      let parts = both_of (nat_le (nursery_count config) n) (has gone n) h in
      let past : nat_le (nursery_count config) n ≡ true = parts.0 in
      (grind (arith, nat_tests, past), parts.1)

  free_older : (n : ℕ) → slot_at old n ≡ None → older_slot g (slot_at old n) ≡ None
  free_older n none = ap (older_slot g) none

  now_free : (n : ℕ) → has pool'.free n ≡ true → (nursery_count config ≤ n) × (n < config.blocks) × (slot_at new n ≡ None)
  now_free n h =
      let parts = and_not ((nat_le (nursery_count config) n && has gone n) || has pool.free n) (is_some (installed blocks n)) (sym (frees n) ∙ h) in
      let none = none_of (installed blocks n) parts.1 in
      ⊎_elim
      (λ a. let back = given_back n a in (back.0, gone_short n back.1, slot_stays n back.0 none ∙ gone_older n back.0 back.1))
      (λ f. let free = sound.are_free n f in (free.0, free.1, slot_stays n free.0 none ∙ free_older n free.2))
      (either_of (nat_le (nursery_count config) n && has gone n) (has pool.free n) parts.0)

  pub replaced_sound : IsSoundSpace config new reset pool'
  replaced_sound = record {
    in_range = sound.in_range;
    blocks = λ n block is. heap_block n block (now n block is);
    short = short;
    count = length-map nurseries from_first ∙ sound.count;
    nurseries = λ m n is. let was = get-map nurseries m n is in subst (IsNurseryOf config new m) was.2 (reset_nursery m was.0 was.1);
    set_aside = omega (arith, sound.set_aside, longer);
    young = λ n block lt is.
        let was = below_is n block lt is in
        let first = sound.young n was.0 lt was.1 in
        (was.2.generation ∙ first.0, was.2.step ∙ first.1);
    filled = λ n block le is. filled n block le (now n block is);
    limit = limit ∙ sound.limit;
    are_free = now_free;
  }
    where
      heap_block : (n : ℕ) (block : BlockValue) → Now n block → IsHeapBlock config n block
      heap_block n block (emptied lt b is e) = emptied_block n b block e (sound.blocks n b is)
      heap_block n block (put_in le is) = installed_sound n block is
      heap_block n block (kept le is older) = sound.blocks n block is

      filled : (n : ℕ) (block : BlockValue) → nursery_count config ≤ n → Now n block → 0 < length block.objects
      filled n block le (emptied lt b is e) = absurd (omega (arith, le))
      filled n block le (put_in _ is) = objects_some block.objects (installed-some blocks n block is)
      filled n block le (kept _ is older) = sound.filled n block le is

  fits_each : EachFits blocks
  fits_each = each_fits config.block_words blocks sound.in_range.most_words (λ k d lt. ⊎_elim (λ e. omega (arith, ap (sum_by raw_size) e)) (λ h. h.fits) (can.sound k d lt))

  fits : TableFits old
  fits = sound_fits config old nurseries pool sound

  fits' : TableFits new
  fits' = sound_fits config new reset pool' replaced_sound

  found_now : (n q : ℕ) → IsWordOf n q → get (objects_map new) q ≡ find nat_cmp q (slot_objects n (slot_at new n))
  found_now n q word = get-objects_map new q ∙ find-at new n q fits' word

  found_before : (n q : ℕ) → IsWordOf n q → get (objects_map old) q ≡ find nat_cmp q (slot_objects n (slot_at old n))
  found_before n q word = get-objects_map old q ∙ find-at old n q fits word

  no_find : (n q : ℕ) (slot : Option BlockValue) (o : Object) → slot ≡ None → find nat_cmp q (slot_objects n slot) ≡ Some o → ⊥
  no_find n q slot o none is = some_not_none (sym is ∙ ap (λ s. find nat_cmp q (slot_objects n s)) none)

  pub copies_there : (q : ℕ) (o : Object) → find nat_cmp q (copies_of blocks) ≡ Some o → get (objects_map new) q ≡ Some o
  copies_there q o is = ⊎_elim
      (λ lt. absurd (some_not_none (sym is ∙ find-copies_first blocks q fits_each lt)))
      (λ at.
      let found = sym (find-copies blocks at.0 q fits_each can.once at.1) ∙ is in
      ⊎_elim
      (λ block. found_now at.0 q at.1 ∙ ap (λ s. find nat_cmp q (slot_objects at.0 s)) (slot_installed at.0 block.0 block.1 ∙ sym block.1) ∙ found)
      (λ none. absurd (no_find at.0 q (installed blocks at.0) o none found))
      (some_or_none (installed blocks at.0)))
      (word_cases q)

  pub older_there : (q : ℕ) (o : Object) → get (objects_map old) q ≡ Some o → g < o.generation → get (objects_map new) q ≡ Some o
  older_there q o is older = ⊎_elim
      (λ lt. absurd (some_not_none (sym is ∙ get-objects_map old q ∙ find-first old q fits lt)))
      (λ at. stays at.0 at.1 (some_or_none (slot_at old at.0)))
      (word_cases q)
    where
      stays : (n : ℕ) → IsWordOf n q → ((block : BlockValue) × (slot_at old n ≡ Some block)) ⊎ (slot_at old n ≡ None) → get (objects_map new) q ≡ Some o
      stays n word (inr none) = absurd (no_find n q (slot_at old n) o none (sym (found_before n q word) ∙ is))
      stays n word (inl found) =
          let here : find nat_cmp q (slot_objects n (Some found.0)) ≡ Some o = sym (ap (λ s. find nat_cmp q (slot_objects n s)) found.1) ∙ sym (found_before n q word) ∙ is in
          let generation : o.generation ≡ found.0.generation = find-generation (small_word n 0) found.0.generation found.0.step found.0.objects q o here in
          let not_young : nat_le found.0.generation g ≡ false = grind (arith, nat_tests, generation, older) in
          ⊎_elim
          (λ lt. let first = sound.young n found.0 lt found.1 in absurd (omega (arith, first.0, generation, older)))
          (λ le.
          let none : installed blocks n ≡ None = ⊎_elim (λ block. absurd (some_not_none (sym found.1 ∙ (sound.are_free n (was_free n block.0 block.1)).2))) (λ h. h) (some_or_none (installed blocks n)) in
          let slot : slot_at new n ≡ Some found.0 = slot_stays n le none ∙ ap (older_slot g) found.1 ∙ ap (λ t. cond {A = Option BlockValue} (is_some (cond {A = Option BlockValue} t (Some found.0) None)) None (Some found.0)) not_young in
          found_now n q word ∙ ap (λ s. find nat_cmp q (slot_objects n s)) slot ∙ here)
          (above_it n)

  pub no_others : (q : ℕ) (o : Object) → get (objects_map new) q ≡ Some o → (find nat_cmp q (copies_of blocks) ≡ Some o) ⊎ ((get (objects_map old) q ≡ Some o) × (g < o.generation))
  no_others q o is = ⊎_elim
      (λ lt. absurd (some_not_none (sym is ∙ get-objects_map new q ∙ find-first new q fits' lt)))
      (λ at. from at.0 at.1 (some_or_none (slot_at new at.0)))
      (word_cases q)
    where
      from_block : (n : ℕ) (block : BlockValue) → IsWordOf n q → find nat_cmp q (slot_objects n (Some block)) ≡ Some o → Now n block → (find nat_cmp q (copies_of blocks) ≡ Some o) ⊎ ((get (objects_map old) q ≡ Some o) × (g < o.generation))
      from_block n block word found (emptied lt b is e) = absurd (some_not_none (sym found ∙ ap (λ raws. find nat_cmp q (objects_from (small_word n 0) block.generation block.step raws)) e.objects))
      from_block n block word found (put_in le is) = inl (find-copies blocks n q fits_each can.once word ∙ ap (λ s. find nat_cmp q (slot_objects n s)) is ∙ found)
      from_block n block word found (kept le is older) =
          let generation : o.generation ≡ block.generation = find-generation (small_word n 0) block.generation block.step block.objects q o found in
          inr (found_before n q word ∙ ap (λ s. find nat_cmp q (slot_objects n s)) is ∙ found, omega (arith, generation, older))

      from : (n : ℕ) → IsWordOf n q → ((block : BlockValue) × (slot_at new n ≡ Some block)) ⊎ (slot_at new n ≡ None) → (find nat_cmp q (copies_of blocks) ≡ Some o) ⊎ ((get (objects_map old) q ≡ Some o) × (g < o.generation))
      from n word (inr none) = absurd (no_find n q (slot_at new n) o none (sym (found_now n q word) ∙ is))
      from n word (inl found) = from_block n found.0 word (sym (ap (λ s. find nat_cmp q (slot_objects n s)) found.1) ∙ sym (found_now n q word) ∙ is) (now n found.0 found.1)

  no_such_block : {b : BlockValue} → None ≡ Some b → ⊥
  no_such_block e = cc

  -- where no object stands in a block of the pool there is no block
  no_slot : (n : ℕ) → nursery_count config ≤ n → ((offset : ℕ) → offset < 512 → get (objects_map new) (small_word n offset) ≡ None) → slot_at new n ≡ None
  no_slot n le none = go (slot_at new n) refl
    where
      go : (slot : Option BlockValue) → slot_at new n ≡ slot → slot_at new n ≡ None
      go None is = is
      go (Some b) is =
          let first = first_object n b (replaced_sound.filled n b le is) in
          absurd (some_not_none (sym first.1 ∙ sym (found_now n (small_word n 0) (record { low = omega arith; high = omega arith }) ∙ ap (λ s. find nat_cmp (small_word n 0) (slot_objects n s)) is) ∙ none 0 (omega arith)))

  -- a block whose objects are collected held one
  stood : (n : ℕ) → nursery_count config ≤ n → has gone n ≡ true → StandsYoung (space_of config old nurseries pool) g n
  stood n le h =
      let block = young_some g (slot_at old n) (sym (goes n) ∙ h) in
      let first = first_object n block.0 block.3 in
      let here : get (objects_map old) (small_word n 0) ≡ Some first.0 = found_before n (small_word n 0) (record { low = omega arith; high = omega arith }) ∙ ap (λ s. find nat_cmp (small_word n 0) (slot_objects n s)) block.1 ∙ first.1 in
      let generation : first.0.generation ≡ block.0.generation = find-generation (small_word n 0) block.0.generation block.0.step block.0.objects (small_word n 0) first.0 first.1 in
      record { in_pool = le; offset = 0; object = first.0; in_range = omega arith; there = here; young = omega (arith, generation, block.2) }

  -- and the block of an object that is collected is one of these
  stood_gone : (n : ℕ) → StandsYoung (space_of config old nurseries pool) g n → has gone n ≡ true
  stood_gone n at = go (slot_at old n) refl
    where
      found : find nat_cmp (small_word n at.offset) (slot_objects n (slot_at old n)) ≡ Some at.object
      found = sym (found_before n (small_word n at.offset) (record { low = omega arith; high = omega (arith, at.in_range) })) ∙ at.there

      go : (slot : Option BlockValue) → slot_at old n ≡ slot → has gone n ≡ true
      go None is = absurd (no_find n (small_word n at.offset) (slot_at old n) at.object is found)
      go (Some b) is =
          let here : find nat_cmp (small_word n at.offset) (slot_objects n (Some b)) ≡ Some at.object = ap (λ s. find nat_cmp (small_word n at.offset) (slot_objects n s)) (sym is) ∙ found in
          let generation : at.object.generation ≡ b.generation = find-generation (small_word n 0) b.generation b.step b.objects (small_word n at.offset) at.object here in
          let young : nat_le b.generation g ≡ true = grind (arith, nat_tests, generation, at.young) in
          let filled : 0 < length b.objects = sound.filled n b at.in_pool is in
          let some : nat_lt 0 (length b.objects) ≡ true = grind (arith, nat_tests, filled) in
          goes n ∙ ap (λ s. holds_young g s) is ∙ both _ _ young some

  free_now : (n : ℕ) → has pool'.free n ≡ true → ((has pool.free n ≡ true) ⊎ StandsYoung (space_of config old nurseries pool) g n) × HoldsNone (space_of config new reset pool') n
  free_now n h =
      let parts = and_not ((nat_le (nursery_count config) n && has gone n) || has pool.free n) (is_some (installed blocks n)) (sym (frees n) ∙ h) in (
        ⊎_elim (λ a. let back = given_back n a in inr (stood n back.0 back.1)) (λ f. inl f) (either_of (nat_le (nursery_count config) n && has gone n) (has pool.free n) parts.0),
        λ offset lt. found_now n (small_word n offset) (record { low = omega arith; high = omega (arith, lt) }) ∙ ap (λ s. find nat_cmp (small_word n offset) (slot_objects n s)) (now_free n h).2,
      )

  now_again : (n : ℕ) → ((has pool.free n ≡ true) ⊎ StandsYoung (space_of config old nurseries pool) g n) × HoldsNone (space_of config new reset pool') n → has pool'.free n ≡ true
  now_again n h = ⊎_elim
      (λ f. here (or_right (nat_le (nursery_count config) n && has gone n) (has pool.free n) f) (sound.are_free n f).0)
      (λ at. let past : nat_le (nursery_count config) n ≡ true = grind (arith, nat_tests, at.in_pool) in here (or_left (nat_le (nursery_count config) n && has gone n) (has pool.free n) (both _ _ past (stood_gone n at))) at.in_pool)
      h.0
    where
      here : ((nat_le (nursery_count config) n && has gone n) || has pool.free n) ≡ true → nursery_count config ≤ n → has pool'.free n ≡ true
      here either le = ⊎_elim
          (λ found. absurd (no_such_block (sym (no_slot n le h.1) ∙ slot_installed n found.0 found.1)))
          (λ none. frees n ∙ ap (λ t. t && not (is_some (installed blocks n))) either ∙ ap (λ o. true && not (is_some o)) none)
          (some_or_none (installed blocks n))

  reset_room : (m : ℕ) (n : NurseryValue) → slice_get nurseries m ≡ Some n → nursery_room (record n { current = 0 }) new ≡ full_room config.nursery_blocks
  reset_room m n is =
      let was = sound.nurseries m n is in
      let e = emptied_nursery m n is 0 (omega (arith, was.sound.current)) in
      let left : n.blocks - 1 - 0 ≡ config.nursery_blocks - 1 = omega (arith, was.blocks) in
      ap (λ slot. let r : Room = record { left = n.blocks - 1 - 0; used = slot_words slot } in r) e.2.1
      ∙ ap (λ u. let r : Room = record { left = n.blocks - 1 - 0; used = u } in r) (unused e.2.0 e.2.2.objects)
      ∙ ap (λ l. let r : Room = record { left = l; used = 0 } in r) left

  reset_rooms : (ns : List NurseryValue) → ((n : NurseryValue) (m : ℕ) → slice_get ns m ≡ Some n → nursery_room (record n { current = 0 }) new ≡ full_room config.nursery_blocks) → rooms_of (map from_first ns) new ≡ replicate (length ns) (full_room config.nursery_blocks)
  reset_rooms [] each = refl
  reset_rooms (n ∷ ns) each = rw (each n 0 refl) (ap (λ rooms. full_room config.nursery_blocks ∷ rooms) (reset_rooms ns (λ x m is. each x (suc m) is)))

  pub is_replaced : IsReplaced (space_of config old nurseries pool) g blocks (space_of config new reset pool')
  is_replaced = record {
    config = refl;
    rooms = reset_rooms nurseries (λ n m is. reset_room m n is) ∙ ap (λ m. replicate m (full_room config.nursery_blocks)) sound.count;
    copies = copies_there;
    older = older_there;
    free = λ n. (free_now n, now_again n);
    no_others = no_others;
  }
