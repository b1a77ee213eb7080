-- The objects of a heap after a collection.
use Rattle.std.proofs.Common.{◌≡◌, ◌⊎◌, ℕ, zero, suc, ◌-◌, ◌<◌, ◌≤◌, Bool, true, false, cond, List, Option, Some, None, is_some, sum_by, refl, sym, ap, subst, ◌∙◌, arith, inl, inr, ⊎_elim}
use Rattle.std.proofs.lemmas.Bool.{cases_eq, cases_lt, true≢false}
use Rattle.std.proofs.lemmas.Bool.Decides.{nat_tests}
use Rattle.std.specs.Prelude.{nat_lt, slice_index, slice_index_or, option_and_then}
use Rattle.std.specs.Option.{option_map}
use Rattle.std.specs.Ordering.{nat_cmp}
use Rattle.std.specs.FinMap.{FinMap, find, get}
use Rattle.model.specs.Graph.{Object, is_large}
use Rattle.model.specs.Destination.{dest}
use Rattle.model.specs.Reached.{has}
use Rattle.model.proofs.Options.{some_is, some_not_none}
use Rattle.layout.specs.Object.{raw_size}
use Rattle.layout.specs.Place.{small_word, large_word}
use Rattle.layout.specs.declared.place.Place.{Place}
use Rattle.block_pool.specs.BlockValue.{BlockValue}
use Rattle.nursery.specs.Installed.{installed}
use Rattle.nursery.specs.Table.{slot_objects}
use Rattle.nursery.proofs.TableLemmas.{IsWordOf}
use Rattle.nursery.proofs.Installed.{EachFits, each_fits, find-copies, installed-all}
use Rattle.steps.specs.HeapValue.{nursery_count}
use Rattle.steps.specs.BlockObjects.{copies_of}
use Rattle.steps.specs.CollectionValue.{IsNumbering}
use Rattle.steps.specs.Numbering.{NumberingValue}
use Rattle.large_objects.specs.LargeValue.{LargeObject, LargeValue, large_at}
use Rattle.large_objects.specs.PoolBlocks.{blocks_at}
use Rattle.heap_objects.specs.WithLarge.{large_object}
use Rattle.heap_objects.proofs.WithLarge.{get-small}
use Rattle.heap_objects.specs.Space.{SpaceValue, IsSpace}
use Rattle.heap_objects.specs.HeapSpaceCollecting.{HoldsNone, StandsYoung, IsReplaced as AreReplaced}
use Rattle.heap_objects.specs.Objects.{objects_of, graph_in}
use Rattle.heap_objects.specs.Inside.{AreApart, IsLargeObject}
use Rattle.heap_objects.specs.Renewing.{at_dest, renewed}
use Rattle.heap_objects.specs.Collecting.{CanReplace, IsReplaced, HasStayed, Stays, aged, at_step, new_place}
use Rattle.heap_objects.proofs.Sides.{at_large, small_there}
use Rattle.heap_objects.proofs.OwnBlocks.{get-blocks, found_blocks}
use Rattle.heap_objects.proofs.Numbers.{young_of_large}

-- an object that stands in the first part of a block
record Holds (m : FinMap nat_cmp Object) (block end : ℕ) : Type 0 where
  offset : ℕ
  object : Object
  in_range : offset < end
  there : get m (small_word block offset) ≡ Some object

held_or_none : (m : FinMap nat_cmp Object) (block end : ℕ) → Holds m block end ⊎ ((offset : ℕ) → offset < end → get m (small_word block offset) ≡ None)
held_or_none m block zero = inr (λ offset lt. absurd (omega (arith, lt)))
held_or_none m block (suc end) = go (get m (small_word block end)) refl (held_or_none m block end)
  where
    go : (o : Option Object) → get m (small_word block end) ≡ o → Holds m block end ⊎ ((offset : ℕ) → offset < end → get m (small_word block offset) ≡ None) → Holds m block (suc end) ⊎ ((offset : ℕ) → offset < suc end → get m (small_word block offset) ≡ None)
    go (Some o) is rest = inl (record { offset = end; object = o; in_range = omega arith; there = is })
    go None is (inl held) = inl (record { offset = held.offset; object = held.object; in_range = omega (arith, held.in_range); there = held.there })
    go None is (inr none) = inr (λ offset lt. ⊎_elim
        (λ e. ap (λ n. get m (small_word block n)) e ∙ is)
        (λ ne. none offset (omega (arith, lt, ne)))
        (cases_eq offset end))

module _ (space new : SpaceValue) (large : LargeValue) (g : ℕ) (blocks : List BlockValue) (are : AreApart space large) (can : CanReplace (objects_of space large) blocks) (done : AreReplaced space g blocks new) where
  fits : EachFits blocks
  fits = each_fits space.config.block_words blocks are.small.in_range.most_words (λ k d lt. ⊎_elim (λ e. omega (arith, ap (sum_by raw_size) e)) (λ h. h.fits) (can.sound k d lt))

  -- a copy stands in a block that was free
  copy_free : (block offset : ℕ) (o : Object) → offset < 512 → find nat_cmp (small_word block offset) (copies_of blocks) ≡ Some o → has space.free block ≡ true
  copy_free block offset o lt is = go (installed blocks block) refl
    where
      word : IsWordOf block (small_word block offset)
      word = record { low = omega arith; high = omega (arith, lt) }

      found : find nat_cmp (small_word block offset) (slot_objects block (installed blocks block)) ≡ Some o
      found = sym (find-copies blocks block (small_word block offset) fits can.once word) ∙ is

      go : (slot : Option BlockValue) → installed blocks block ≡ slot → has space.free block ≡ true
      go None at = absurd (some_not_none (sym found ∙ ap (λ s. find nat_cmp (small_word block offset) (slot_objects block s)) at))
      go (Some b) at =
          let one = installed-all (λ x. has space.free x.number ≡ true) blocks block b can.were_free at in
          ap (has space.free) (sym one.1) ∙ one.0

  -- no new object stands in a block of a large one
  still_none : (n block : ℕ) → has (blocks_at large n) block ≡ true → HoldsNone new block
  still_none n block mine = λ offset lt. go offset lt (get new.objects (small_word block offset)) refl
    where
      none : HoldsNone space block
      none = (are.apart n block mine).1

      from : (offset : ℕ) (o : Object) → offset < 512 → (find nat_cmp (small_word block offset) (copies_of blocks) ≡ Some o) ⊎ ((get space.objects (small_word block offset) ≡ Some o) × (g < o.generation)) → ⊥
      from offset o lt (inl copy) = true≢false (sym (copy_free block offset o lt copy) ∙ are.pool.taken n block mine)
      from offset o lt (inr old) = some_not_none (sym old.0 ∙ none offset lt)

      go : (offset : ℕ) → offset < 512 → (o : Option Object) → get new.objects (small_word block offset) ≡ o → get new.objects (small_word block offset) ≡ None
      go offset lt None is = is
      go offset lt (Some o) is = absurd (from offset o lt (done.no_others (small_word block offset) o is))

  still_taken : (n block : ℕ) → has (blocks_at large n) block ≡ true → has new.free block ≡ false
  still_taken n block mine = go (has new.free block) refl
    where
      before : (has space.free block ≡ true) ⊎ StandsYoung space g block → ⊥
      before (inl free) = true≢false (sym free ∙ are.pool.taken n block mine)
      before (inr at) = some_not_none (sym at.there ∙ (are.apart n block mine).1 at.offset at.in_range)

      go : (b : Bool) → has new.free block ≡ b → has new.free block ≡ false
      go false is = is
      go true is = absurd (before ((done.free block).0 is).0)

  free_now : (block : ℕ) → nursery_count space.config ≤ block → block < space.config.blocks → HoldsNone new block → ((n : ℕ) → has (blocks_at large n) block ≡ false) → has new.free block ≡ true
  free_now block from to none unheld = (done.free block).1 (⊎_elim (λ held. stood held) (λ empty. inl (are.all_free block from to empty unheld)) (held_or_none space.objects block 512), none)
    where
      stood : Holds space.objects block 512 → (has space.free block ≡ true) ⊎ StandsYoung space g block
      stood held = ⊎_elim
          (λ older. absurd (some_not_none (sym (done.older (small_word block held.offset) held.object held.there older) ∙ none held.offset held.in_range)))
          (λ young. inr (record { in_pool = from; offset = held.offset; object = held.object; in_range = held.in_range; there = held.there; young = young }))
          (cases_lt g held.object.generation)

  -- the large objects stand beside the new blocks
  pub replaced_apart : IsSpace new → AreApart new large
  replaced_apart small = record {
    small = small;
    numbers = are.numbers;
    pool = record {
      some = are.pool.some;
      in_limit = λ n block h. omega (arith, are.pool.in_limit n block h, ap (λ k. k.blocks) done.config);
      taken = still_taken;
      once = are.pool.once;
      apart = are.pool.apart;
    };
    each = λ n o is. subst (λ k. IsLargeObject k o) (sym done.config) (are.each n o is);
    apart = λ n block mine. (omega (arith, (are.apart n block mine).0, ap nursery_count done.config), still_none n block mine);
    all_free = λ block from to none unheld. free_now block (omega (arith, from, ap nursery_count done.config)) (omega (arith, to, ap (λ k. k.blocks) done.config)) none unheld;
  }

module _ (space mid : SpaceValue) (free : List ℕ) (large large' : LargeValue) (g : ℕ) (blocks : List BlockValue) (numbering : NumberingValue) (places : List (Option Place)) (are : AreApart space large) (after : AreApart (record mid { free = free }) large')
    (numbers : IsNumbering (graph_in (objects_of space large)) g numbering)
    (each : (n : ℕ) → large_at large' n ≡ option_and_then (renewed space.config.shape g (is_some (slice_index_or places (slice_index numbering.large n) None))) (large_at large n)) where
  abbrev new : SpaceValue
  new = record mid { free = free }

  abbrev kept : ℕ → Bool
  kept n = is_some (slice_index_or places (slice_index numbering.large n) None)

  -- one that stays, as it was and as it is
  pub record Renews (n : ℕ) (was is : LargeObject) : Type 0 where
    pub before : large_at large n ≡ Some was
    pub now : large_at large' n ≡ Some is
    pub stays : (g < was.generation) ⊎ (kept n ≡ true)
    pub object : large_object is ≡ aged space.config.shape g (large_object was)
    pub blocks_are : is.blocks ≡ was.blocks

  renewed_is : (n : ℕ) (o : LargeObject) → large_at large n ≡ Some o → large_at large' n ≡ renewed space.config.shape g (kept n) o
  renewed_is n o is = each n ∙ ap (option_and_then (renewed space.config.shape g (kept n))) is

  still_older : (n : ℕ) (o : LargeObject) → large_at large n ≡ Some o → nat_lt g o.generation ≡ true → Renews n o o
  still_older n o is older = record {
    before = is;
    now = renewed_is n o is ∙ ap (λ b. cond b (Some o) (cond (kept n) (Some (at_dest space.config.shape o)) None)) older;
    stays = inl (let lt : g < o.generation = grind (arith, nat_tests, older) in lt);
    object = sym (ap (λ b. cond b (large_object o) (large_object (at_dest space.config.shape o))) older);
    blocks_are = refl;
  }

  at_its_dest : (n : ℕ) (o : LargeObject) → large_at large n ≡ Some o → nat_lt g o.generation ≡ false → kept n ≡ true → Renews n o (at_dest space.config.shape o)
  at_its_dest n o is young stays = record {
    before = is;
    now = renewed_is n o is ∙ ap (λ b. cond b (Some o) (cond (kept n) (Some (at_dest space.config.shape o)) None)) young ∙ ap (λ b. cond b (Some (at_dest space.config.shape o)) None) stays;
    stays = inr stays;
    object = sym (ap (λ b. cond b (large_object o) (large_object (at_dest space.config.shape o))) young);
    blocks_are = refl;
  }

  renews : (n : ℕ) (o : LargeObject) → large_at large n ≡ Some o → (g < o.generation) ⊎ (kept n ≡ true) → (x : LargeObject) × Renews n o x
  renews n o is stays = go (nat_lt g o.generation) refl stays
    where
      go : (b : Bool) → nat_lt g o.generation ≡ b → (g < o.generation) ⊎ (kept n ≡ true) → (x : LargeObject) × Renews n o x
      go true older stays = (o, still_older n o is older)
      go false young (inl lt) = absurd (true≢false (sym (let yes : nat_lt g o.generation ≡ true = grind (arith, nat_tests, lt) in yes) ∙ young))
      go false young (inr k) = (at_dest space.config.shape o, at_its_dest n o is young k)

  renewed_from : (n : ℕ) (x : LargeObject) → large_at large' n ≡ Some x → (o : LargeObject) × Renews n o x
  renewed_from n x is = go (large_at large n) refl
    where
      by_kept : (o : LargeObject) → large_at large n ≡ Some o → (b : Bool) → nat_lt g o.generation ≡ b → (k : Bool) → kept n ≡ k → (y : LargeObject) × Renews n y x
      by_kept o at true older k keeps =
          let r = still_older n o at older in
          (o, subst (Renews n o) (some_is (sym r.now ∙ is)) r)
      by_kept o at false young true keeps =
          let r = at_its_dest n o at young keeps in
          (o, subst (Renews n o) (some_is (sym r.now ∙ is)) r)
      by_kept o at false young false goes =
          absurd (some_not_none (sym is ∙ renewed_is n o at ∙ ap (λ b. cond b (Some o) (cond (kept n) (Some (at_dest space.config.shape o)) None)) young ∙ ap (λ b. cond b (Some (at_dest space.config.shape o)) None) goes))

      go : (slot : Option LargeObject) → large_at large n ≡ slot → (y : LargeObject) × Renews n y x
      go None at = absurd (some_not_none (sym is ∙ each n ∙ ap (option_and_then (renewed space.config.shape g (kept n))) at))
      go (Some o) at = by_kept o at (nat_lt g o.generation) refl (kept n) refl

  place_is : (n : ℕ) (o : LargeObject) → large_at large n ≡ Some o → o.generation ≤ g → is_some (new_place (objects_of space large) g places (large_word n)) ≡ kept n
  place_is n o is le = ap (λ i. is_some (slice_index_or places i None)) (sym (numbers.large n (numbers.covers_large n (young_of_large space large are g n o is le))))

  -- what the contract says of staying, by the large objects
  stays_as : (n : ℕ) (o : LargeObject) → large_at large n ≡ Some o → (g < o.generation) ⊎ (kept n ≡ true) → Stays (objects_of space large) g places (large_word n) (large_object o)
  stays_as n o is stays = ⊎_elim
      (λ older. inl older)
      (λ young. by stays young)
      (cases_lt g o.generation)
    where
      by : (g < o.generation) ⊎ (kept n ≡ true) → o.generation ≤ g → Stays (objects_of space large) g places (large_word n) (large_object o)
      by (inl older) le = inl older
      by (inr keeps) le = inr ((are.each n o is).large, place_is n o is le ∙ keeps)

  as_stays : (n : ℕ) (o : LargeObject) → large_at large n ≡ Some o → Stays (objects_of space large) g places (large_word n) (large_object o) → (g < o.generation) ⊎ (kept n ≡ true)
  as_stays n o is (inl older) = inl older
  as_stays n o is (inr at) = ⊎_elim (λ older. inl older) (λ le. inr (sym (place_is n o is le) ∙ at.1)) (cases_lt g o.generation)

  old_large : (n : ℕ) (o : LargeObject) → large_at large n ≡ Some o → get (objects_of space large).objects (large_word n) ≡ Some (large_object o)
  old_large n o is = at_large space are.small large n ∙ ap (option_map large_object) is

  new_large : (n : ℕ) (o : LargeObject) → large_at large' n ≡ Some o → get (objects_of new large').objects (large_word n) ≡ Some (large_object o)
  new_large n o is = at_large new after.small large' n ∙ ap (option_map large_object) is

  -- each place is that of a small object or of a large one
  record LargeName (q : ℕ) : Type 0 where
    number : ℕ
    is : q ≡ large_word number

  name_cases : (q : ℕ) → (q < large_word 0) ⊎ LargeName q
  name_cases q = ⊎_elim (λ lt. inl lt) (λ le. inr (record { number = q - large_word 0; is = omega (arith, le) })) (cases_lt q (large_word 0))

  some_large : (slot : Option LargeObject) (o : Object) → option_map large_object slot ≡ Some o → (x : LargeObject) × (slot ≡ Some x) × (large_object x ≡ o)
  some_large None o is = absurd (some_not_none (sym is))
  some_large (Some x) o is = (x, refl, some_is is)

  module _ (done : AreReplaced space g blocks mid) where
    aged_older : (o : Object) → g < o.generation → aged space.config.shape g o ≡ o
    aged_older o lt = let older : nat_lt g o.generation ≡ true = grind (arith, nat_tests, lt) in ap (λ b. cond b o (at_step o (dest space.config.shape (o.generation, o.step)))) older

    not_large : (q : ℕ) (o : Object) → get space.objects q ≡ Some o → is_large space.config.block_words o ≡ true → ⊥
    not_large q o is large_is =
        let le = are.small.small q o is in
        let no : is_large space.config.block_words o ≡ false = grind (arith, nat_tests, le) in
        true≢false (sym large_is ∙ no)

    stayed : (name : ℕ) (o : Object) → get (objects_of space large).objects name ≡ Some o → Stays (objects_of space large) g places name o → get (objects_of new large').objects name ≡ Some (aged space.config.shape g o)
    stayed name o is stays = ⊎_elim (λ lt. small lt stays) (λ at. by_large at.number at.is) (name_cases name)
      where
        small : name < large_word 0 → Stays (objects_of space large) g places name o → get (objects_of new large').objects name ≡ Some (aged space.config.shape g o)
        small lt (inl older) = get-small new.objects large'.slots name lt ∙ done.older name o (sym (get-small space.objects large.slots name lt) ∙ is) older ∙ ap (λ x. Some x) (sym (aged_older o older))
        small lt (inr large_is) = absurd (not_large name o (sym (get-small space.objects large.slots name lt) ∙ is) large_is.0)

        by_large : (n : ℕ) → name ≡ large_word n → get (objects_of new large').objects name ≡ Some (aged space.config.shape g o)
        by_large n named =
            let here : get (objects_of space large).objects (large_word n) ≡ Some o = ap (λ q. get (objects_of space large).objects q) (sym named) ∙ is in
            let x = some_large (large_at large n) o (sym (at_large space are.small large n) ∙ here) in
            let stays_here : Stays (objects_of space large) g places (large_word n) (large_object x.0) = subst (λ y. Stays (objects_of space large) g places (large_word n) y) (sym x.2) (subst (λ q. Stays (objects_of space large) g places q o) named stays) in
            let r = renews n x.0 x.1 (as_stays n x.0 x.1 stays_here) in
            ap (λ q. get (objects_of new large').objects q) named ∙ new_large n r.0 r.1.now ∙ ap (λ y. Some y) (r.1.object ∙ ap (aged space.config.shape g) x.2)

    has_stayed : (n : ℕ) (was is : LargeObject) → Renews n was is → HasStayed (objects_of space large) g places (large_word n) (large_object is)
    has_stayed n was is r = record { was = large_object was; there = old_large n was r.before; stays = stays_as n was r.before r.stays; is = r.object }

    no_others : (name : ℕ) (o : Object) → get (objects_of new large').objects name ≡ Some o → (find nat_cmp name (copies_of blocks) ≡ Some o) ⊎ HasStayed (objects_of space large) g places name o
    no_others name o is = ⊎_elim (λ lt. small lt (done.no_others name o (sym (get-small new.objects large'.slots name lt) ∙ is))) (λ at. by_large at.number at.is) (name_cases name)
      where
        small : name < large_word 0 → (find nat_cmp name (copies_of blocks) ≡ Some o) ⊎ ((get space.objects name ≡ Some o) × (g < o.generation)) → (find nat_cmp name (copies_of blocks) ≡ Some o) ⊎ HasStayed (objects_of space large) g places name o
        small lt (inl copy) = inl copy
        small lt (inr old) = inr (record { was = o; there = get-small space.objects large.slots name lt ∙ old.0; stays = inl old.1; is = sym (aged_older o old.1) })

        by_large : (n : ℕ) → name ≡ large_word n → (find nat_cmp name (copies_of blocks) ≡ Some o) ⊎ HasStayed (objects_of space large) g places name o
        by_large n named =
            let here : get (objects_of new large').objects (large_word n) ≡ Some o = ap (λ q. get (objects_of new large').objects q) (sym named) ∙ is in
            let x = some_large (large_at large' n) o (sym (at_large new after.small large' n) ∙ here) in
            let r = renewed_from n x.0 x.1 in
            inr (subst (λ q. HasStayed (objects_of space large) g places q o) (sym named) (subst (HasStayed (objects_of space large) g places (large_word n)) x.2 (has_stayed n r.0 x.0 r.1)))

    -- the blocks of those that stay
    keeps_blocks : (name : ℕ) (bs : List ℕ) → get (objects_of new large').large_blocks name ≡ Some bs → (get (objects_of space large).large_blocks name ≡ Some bs) × ((o : Object) × (get (objects_of space large).objects name ≡ Some o) × Stays (objects_of space large) g places name o)
    keeps_blocks name bs is =
        let f = found_blocks large'.slots name bs is in
        let word : name ≡ large_word f.k = omega (arith, f.word) in
        let r = renewed_from f.k f.large f.there in
        let blocks_were : get (objects_of space large).large_blocks name ≡ Some bs = ap (λ q. get (objects_of space large).large_blocks q) word ∙ get-blocks large.slots f.k ∙ ap (option_map (λ (x : LargeObject). x.blocks)) r.1.before ∙ ap (λ x. Some x) (sym r.1.blocks_are ∙ f.is) in
        let there : get (objects_of space large).objects name ≡ Some (large_object r.0) = ap (λ q. get (objects_of space large).objects q) word ∙ old_large f.k r.0 r.1.before in
        (blocks_were, (large_object r.0, there, subst (λ q. Stays (objects_of space large) g places q (large_object r.0)) (sym word) (stays_as f.k r.0 r.1.before r.1.stays)))

    keeps_all : (name : ℕ) (bs : List ℕ) → (get (objects_of space large).large_blocks name ≡ Some bs) × ((o : Object) × (get (objects_of space large).objects name ≡ Some o) × Stays (objects_of space large) g places name o) → get (objects_of new large').large_blocks name ≡ Some bs
    keeps_all name bs h =
        let f = found_blocks large.slots name bs h.0 in
        let word : name ≡ large_word f.k = omega (arith, f.word) in
        let there : get (objects_of space large).objects name ≡ Some (large_object f.large) = ap (λ q. get (objects_of space large).objects q) word ∙ old_large f.k f.large f.there in
        let same : h.1.0 ≡ large_object f.large = some_is (sym h.1.1 ∙ there) in
        let stays : Stays (objects_of space large) g places (large_word f.k) (large_object f.large) = subst (λ q. Stays (objects_of space large) g places q (large_object f.large)) word (subst (λ x. Stays (objects_of space large) g places name x) same h.1.2) in
        let r = renews f.k f.large f.there (as_stays f.k f.large f.there stays) in
        ap (λ q. get (objects_of new large').large_blocks q) word ∙ get-blocks large'.slots f.k ∙ ap (option_map (λ (x : LargeObject). x.blocks)) r.1.now ∙ ap (λ x. Some x) (r.1.blocks_are ∙ f.is)

    pub is_replaced : IsReplaced (objects_of space large) g blocks places (objects_of new large')
    is_replaced = record {
      config = done.config;
      rooms = done.rooms;
      copies = λ name o is. small_there new after.small large'.slots name o (done.copies name o is);
      stayed = stayed;
      no_others = no_others;
      large_blocks = λ name bs. (keeps_blocks name bs, keeps_all name bs);
    }
