-- After a commit the heap is the collected one.
use Rattle.std.proofs.Common.{◌≡◌, ℕ, ◌<◌, ◌≤◌, Bool, true, false, cond, List, [], ◌∷◌, ◌++◌, map, Option, Some, None, refl, sym, ap, subst, ◌∙◌, arith, ⊎_elim, inl, inr}
use Rattle.std.proofs.lemmas.Bool.{true≢false, cases_Bool, le-ltb, lt-ltb}
use Rattle.std.specs.Prelude.{IsSome, IsTrue, slice_get, unwrap_or}
use Rattle.std.specs.Option.{option_map, option_and_then}
use Rattle.std.specs.Ordering.{nat_cmp, eq_by_cmp}
use Rattle.std.specs.FinMap.{get, find, entries, get-entries, empty}
use Rattle.model.specs.Graph.{Graph, Object, IsClosed, object_at, field_at, is_large}
use Rattle.model.specs.Live.{Live, IsYoung, IsOlder}
use Rattle.model.specs.OldSlots.{Slot, old_slots}
use Rattle.model.specs.Laws.{IsOldToYoung}
use Rattle.model.specs.Collected.{Collected, IsLiveOrOlder, renamed, moved_to}
use Rattle.model.specs.Destination.{dest}
use Rattle.model.proofs.Among.{Among, among_Contains, Contains-among, among_left, among_right, among_either}
use Rattle.model.proofs.LiveLemmas.{Live-young}
use Rattle.model.proofs.ClosedLemmas.{closed_collected}
use Rattle.model.proofs.OldSlotsExact.{old_slots_exact}
use Rattle.model.proofs.Options.{some_is, some_not_none}
use Rattle.layout.specs.declared.place.Place.{Place}
use Rattle.layout.specs.Place.{small_word}
use Rattle.block_pool.specs.BlockValue.{BlockValue}
use Rattle.heap.specs.HeapView.{heap_of}
use Rattle.heap.specs.IsHeap.{AreHeapObjects}
use Rattle.heap.specs.Moves.{writes_by, with_writes}
use Rattle.heap.specs.Roots.{roots_map, root_word, renamed_word}
use Rattle.heap_objects.specs.Objects.{ObjectsValue, heap_in}
use Rattle.heap_objects.specs.Collecting.{Stays, new_place, at_step}
use Rattle.heap_objects.specs.Sound.{AreObjects}
use Rattle.heap_objects.proofs.WithRoots.{objects_at}
use Rattle.heap.specs.Installed.{Installed}
use Rattle.heap.specs.LargeSlots.{IsLargeSlot, AreLargeSlots}
use Rattle.steps.specs.ReportValue.{renaming_of}
use Rattle.steps.specs.CollectionValue.{CollectionValue, SlotValue, root_slot, field_slot_of, young_names}
use Rattle.steps.specs.SettledValue.{IsSettled}
use Rattle.steps.specs.CollectedHeap.{IsIn, IsFreeBlock}
use Rattle.heap.specs.Ended.{IsEnded}
use Rattle.nursery.proofs.Installed.{numbers_of, all_numbers}
use Rattle.heap.proofs.RootMap.{get-roots}
use Rattle.heap.proofs.FieldsMoved.{written, written_or_not, with_writes-none, moved_pointers}
use Rattle.heap.proofs.SettledLemmas.{old_slot, generations_below, stays, large_field, live_placed, stays_kept, kept_stays}
use Rattle.heap.proofs.GraphIn.{young_in}

find_pairs : (f : ℕ → ℕ) (es : List (ℕ × ℕ)) (n : ℕ) → find nat_cmp n (map {B = ℕ × ℕ} (λ e. (e.0, f e.1)) es) ≡ option_map f (find nat_cmp n es)
find_pairs f [] n = refl
find_pairs f (e ∷ es) n = go (eq_by_cmp nat_cmp n e.0) (find_pairs f es n)
  where
    go : (b : Bool) → find nat_cmp n (map {B = ℕ × ℕ} (λ x. (x.0, f x.1)) es) ≡ option_map f (find nat_cmp n es) → cond b (Some (f e.1)) (find nat_cmp n (map {B = ℕ × ℕ} (λ x. (x.0, f x.1)) es)) ≡ option_map f (cond b (Some e.1) (find nat_cmp n es))
    go true rest = refl
    go false rest = rest

renamed_all : (f : ℕ → ℕ) (slots : List (Option Place)) (pairs : List (ℕ × ℕ)) (n : ℕ) → pairs ≡ map (λ e. (e.0, f e.1)) (entries (roots_map slots)) → renamed_word pairs n (root_word slots n) ≡ option_map f (root_word slots n)
renamed_all f slots pairs n are =
    go (root_word slots n) (ap (find nat_cmp n) are ∙ find_pairs f (entries (roots_map slots)) n ∙ ap (option_map f) (sym (get-entries (roots_map slots) n) ∙ get-roots slots n))
  where
    go : (o : Option ℕ) → find nat_cmp n pairs ≡ option_map f o → renamed_word pairs n o ≡ option_map f o
    go None is = refl
    go (Some w) is = ap (λ p. Some (unwrap_or p w)) is

-- of the slots those of roots write nothing
writes-roots : (f : ℕ → ℕ) (es : List (ℕ × ℕ)) (slots : List SlotValue) → writes_by f (map (λ e. root_slot e.0 e.1) es ++ slots) ≡ writes_by f slots
writes-roots f [] slots = refl
writes-roots f (e ∷ es) slots = writes-roots f es slots

pub fields_among : (f : ℕ → ℕ) (slots : List Slot) (w : ℕ × (ℕ × ℕ)) → Among w (writes_by f (map field_slot_of slots)) → (slot : Slot) × Among slot slots × (w ≡ (slot.holder, (slot.field, f slot.target)))
fields_among f [] w h = absurd h
fields_among f (slot ∷ slots) w (inl e) = (slot, inl refl, e)
fields_among f (slot ∷ slots) w (inr h) = let rest = fields_among f slots w h in (rest.0, inr rest.1, rest.2)

pub writes_among : (f : ℕ → ℕ) (es : List (ℕ × ℕ)) (slots : List Slot) (w : ℕ × (ℕ × ℕ)) → Among w (writes_by f (map (λ e. root_slot e.0 e.1) es ++ map field_slot_of slots)) → (slot : Slot) × Among slot slots × (w ≡ (slot.holder, (slot.field, f slot.target)))
writes_among f es slots w h = fields_among f slots w (subst (Among w) (writes-roots f es (map field_slot_of slots)) h)

among_fields : (f : ℕ → ℕ) (slots : List Slot) (slot : Slot) → Among slot slots → Among (slot.holder, (slot.field, f slot.target)) (writes_by f (map field_slot_of slots))
among_fields f [] slot h = absurd h
among_fields f (s ∷ slots) slot (inl e) = inl (ap (λ x. let p : ℕ × (ℕ × ℕ) = (x.holder, (x.field, f x.target)) in p) e)
among_fields f (s ∷ slots) slot (inr h) = inr (among_fields f slots slot h)

among_writes : (f : ℕ → ℕ) (es : List (ℕ × ℕ)) (slots : List Slot) (slot : Slot) → Among slot slots → Among (slot.holder, (slot.field, f slot.target)) (writes_by f (map (λ e. root_slot e.0 e.1) es ++ map field_slot_of slots))
among_writes f es slots slot h = subst (Among (slot.holder, (slot.field, f slot.target))) (sym (writes-roots f es (map field_slot_of slots))) (among_fields f slots slot h)

module _ (objects objects' : ObjectsValue) (slots slots' : List (Option Place)) (collection : CollectionValue) (places : List (Option Place)) (blocks : List BlockValue) (won : List (ℕ × ℕ))
    (sound : AreObjects (heap_in objects))
    (sound' : AreObjects (heap_in objects'))
    (closed : IsClosed (heap_of objects slots).graph)
    (settled : IsSettled (heap_of objects slots) collection places blocks won)
    (found : List Slot)
    (large : AreLargeSlots objects collection.generation places found)
    (pairs : List (ℕ × ℕ))
    (pairs_are : pairs ≡ map (λ e. (e.0, renamed (renaming_of (young_names (heap_of objects slots).graph collection.generation) won) e.1)) (entries (roots_map slots)))
    (rewritten : (n : ℕ) → root_word slots' n ≡ renamed_word pairs n (root_word slots n))
    (installed : Installed objects collection.generation blocks places (writes_by (renamed (renaming_of (young_names (heap_of objects slots).graph collection.generation) won)) collection.slots ++ writes_by (renamed (renaming_of (young_names (heap_of objects slots).graph collection.generation) won)) (map field_slot_of found)) objects') where
  abbrev old : Graph
  old = (heap_of objects slots).graph

  abbrev renaming : List (ℕ × ℕ)
  renaming = renaming_of (young_names old collection.generation) won

  abbrev old_writes : List (ℕ × (ℕ × ℕ))
  old_writes = writes_by (renamed renaming) collection.slots

  abbrev large_writes : List (ℕ × (ℕ × ℕ))
  large_writes = writes_by (renamed renaming) (map field_slot_of found)

  abbrev writes : List (ℕ × (ℕ × ℕ))
  writes = old_writes ++ large_writes

  root_is : (n : ℕ) → root_word slots' n ≡ option_map (renamed renaming) (root_word slots n)
  root_is n = rewritten n ∙ renamed_all _ slots pairs n pairs_are

  -- a pointer that is written
  record IsWrittenSlot (slot : Slot) : Type 0 where
    pub holder : Object
    pub there : object_at old slot.holder ≡ Some holder
    pub leads : field_at old slot.holder slot.field ≡ Some (Some slot.target)

  -- what is written comes from an old slot, or from a large object that is kept
  write_from : (w : ℕ × (ℕ × ℕ)) → Among w writes → (slot : Slot) × IsWrittenSlot slot × (w ≡ (slot.holder, (slot.field, renamed renaming slot.target)))
  write_from w h = ⊎_elim of_old of_large (among_either old_writes large_writes w h)
    where
      of_old : Among w old_writes → (slot : Slot) × IsWrittenSlot slot × (w ≡ (slot.holder, (slot.field, renamed renaming slot.target)))
      of_old at =
          let from = writes_among (renamed renaming) (entries (roots_map slots)) (old_slots old objects.config.shape.generations collection.generation) w (subst (λ ss. Among w (writes_by (renamed renaming) ss)) settled.opened.slots at) in
          let is = (old_slot objects slots collection places blocks won sound closed settled from.0 from.1).old in
          (from.0, record { holder = is.holder.object; there = is.holder.there; leads = is.leads }, from.2)

      of_large : Among w large_writes → (slot : Slot) × IsWrittenSlot slot × (w ≡ (slot.holder, (slot.field, renamed renaming slot.target)))
      of_large at =
          let from = fields_among (renamed renaming) found w at in
          let is = large.only from.0 (Contains-among found from.0 from.1) in
          (from.0, record { holder = is.holder; there = is.there; leads = large_field objects slots collection places blocks won sound closed settled from.0 is }, from.2)

  -- each old slot is written
  old_written : (slot : Slot) → IsOldToYoung old collection.generation slot → Among (slot.holder, (slot.field, renamed renaming slot.target)) writes
  old_written slot is =
      among_left old_writes large_writes _
      (subst (λ ss. Among (slot.holder, (slot.field, renamed renaming slot.target)) (writes_by (renamed renaming) ss)) (sym settled.opened.slots)
      (among_writes (renamed renaming) (entries (roots_map slots)) (old_slots old objects.config.shape.generations collection.generation) slot
      (among_Contains _ slot ((old_slots_exact old objects.config.shape.generations collection.generation slot (generations_below objects slots collection places blocks won sound closed settled)).1 is))))

  -- and so is each pointer of a large object that is kept
  large_written : (slot : Slot) → IsLargeSlot objects collection.generation places slot → Among (slot.holder, (slot.field, renamed renaming slot.target)) writes
  large_written slot is = among_right old_writes large_writes _ (among_fields (renamed renaming) found slot (among_Contains found slot (large.all slot is)))

  -- a small object's new place was free, so no object stands there
  fresh_place : (name place : ℕ) (o : Object) → Live old collection.generation name → object_at old name ≡ Some o → is_large objects.config.block_words o ≡ false → find nat_cmp name renaming ≡ Some place → object_at old place ≡ None
  fresh_place name place o live is small at =
      let new : renamed renaming name ≡ place = ap (λ p. unwrap_or p name) at in
      ⊎_elim
      (λ big. absurd (true≢false (sym big ∙ small)))
      (λ in_block. subst (λ p. object_at old p ≡ None) new (empty in_block))
      (settled.fresh name o live is)
    where
      empty : IsIn (numbers_of blocks) (renamed renaming name) → object_at old (renamed renaming name) ≡ None
      empty in_block = ap (object_at old) in_block.1.1.1 ∙ none_at (get objects.objects (small_word in_block.0 in_block.1.0)) refl
        where
          free : IsFreeBlock (heap_in objects) in_block.0
          free = (sound.free in_block.0).0 (all_numbers blocks objects.free in_block.0 settled.were_free in_block.1.1.2)

          none_at : (x : Option Object) → get objects.objects (small_word in_block.0 in_block.1.0) ≡ x → get objects.objects (small_word in_block.0 in_block.1.0) ≡ None
          none_at None there = there
          none_at (Some x) there = absurd (free.holds_none (record { offset = in_block.1.0; object = x; in_range = in_block.1.1.0; there = there }))

  -- nothing is written into a copy
  copy_stays : (place : ℕ) (o : Object) → object_at old place ≡ None → with_writes writes place o ≡ o
  copy_stays place o none = with_writes-none writes place o (λ w h same.
      let from = write_from w h in
      let holder : from.0.holder ≡ place = sym (ap (λ p. p.0) from.2) ∙ same in
      some_not_none (sym from.1.there ∙ ap (object_at old) holder ∙ none))

  -- each pointer of the object to a young one is written
  abbrev AreWritten : ℕ → Type 0
  AreWritten name = (i target : ℕ) → field_at old name i ≡ Some (Some target) → IsYoung old collection.generation target → Among (name, (i, renamed renaming target)) writes

  -- where this is so its pointers are moved
  field_moved : (name : ℕ) (o : Object) → object_at old name ≡ Some o → AreWritten name → (i : ℕ) (v : Option ℕ) → slice_get o.pointers i ≡ Some v → written writes name i v ≡ option_map (renamed renaming) v
  field_moved name o is each i v field = ⊎_elim
      (λ w.
      let from = write_from _ w.among in
      let holder : name ≡ from.0.holder = ap (λ p. p.0) from.2 in
      let at : i ≡ from.0.field = ap (λ p. p.1.0) from.2 in
      let target : w.target ≡ renamed renaming from.0.target = ap (λ p. p.1.1) from.2 in
      let here : field_at old name i ≡ Some v = ap (option_and_then (λ x. slice_get x.pointers i)) is ∙ field in
      let leads : field_at old name i ≡ Some (Some from.0.target) = subst (λ n. field_at old n i ≡ Some (Some from.0.target)) (sym holder) (subst (λ k. field_at old from.0.holder k ≡ Some (Some from.0.target)) (sym at) from.1.leads) in
      w.is ∙ ap Some target ∙ ap (option_map (renamed renaming)) (sym (some_is (sym here ∙ leads))))
      (λ w. w.is ∙ unmoved v field w.none)
      (written_or_not writes name i v)
    where
      unmoved : (v : Option ℕ) → slice_get o.pointers i ≡ Some v → ((target : ℕ) → Among (name, (i, target)) writes → ⊥) → v ≡ option_map (renamed renaming) v
      unmoved None field none = refl
      unmoved (Some target) field none =
          let leads : field_at old name i ≡ Some (Some target) = ap (option_and_then (λ x. slice_get x.pointers i)) is ∙ field in
          ap Some (sym (stays objects slots collection places blocks won sound closed settled target (λ young. none (renamed renaming target) (each i target leads young))))

  older_written : (name : ℕ) → IsOlder old collection.generation name → AreWritten name
  older_written name older i target leads young =
      let slot : Slot = record { holder = name; field = i; target = target } in
      old_written slot (record { old = record { holder = older; leads = leads }; young = young })

  kept_written : (name : ℕ) (o : Object) → get objects.objects name ≡ Some o → o.generation ≤ collection.generation → IsTrue (is_large objects.config.block_words o) → IsSome (new_place objects collection.generation places name) → AreWritten name
  kept_written name o is low big placed i target leads young =
      let slot : Slot = record { holder = name; field = i; target = target } in
      large_written slot (record {
        holder = o;
        there = is;
        young = low;
        large = big;
        kept = placed;
        leads = sym (ap (option_and_then (λ (x : Object). slice_get x.pointers i)) is) ∙ leads;
        to_young = young_in objects slots collection.generation target young;
      })

  -- a live small object stands at its new place
  live_copy : (name : ℕ) (o : Object) → Live old collection.generation name → get objects.objects name ≡ Some o → is_large objects.config.block_words o ≡ false → get objects'.objects (renamed renaming name) ≡ Some (moved_to renaming (dest objects.config.shape (o.generation, o.step)) o)
  live_copy name o live is small =
      let at = settled.renaming.all_live name live in
      let new : renamed renaming name ≡ at.0 = ap (λ p. unwrap_or p name) at.1 in
      ⊎_elim
      (λ big. absurd (true≢false (sym big ∙ small)))
      (λ copied.
      ap (get objects'.objects) new ∙ installed.objects at.0 ∙ ap (option_map (with_writes writes at.0)) (installed.replaces.copies at.0 _ copied)
      ∙ ap Some (copy_stays at.0 _ (fresh_place name at.0 o live is small at.1)))
      (settled.copies name at.0 o at.1 is)

  -- a live large one stays where it was, at its destination
  live_stays : (name : ℕ) (o : Object) → Live old collection.generation name → get objects.objects name ≡ Some o → IsTrue (is_large objects.config.block_words o) → get objects'.objects (renamed renaming name) ≡ Some (moved_to renaming (dest objects.config.shape (o.generation, o.step)) o)
  live_stays name o live is big =
      let young = Live-young old collection.generation name live in
      let low : o.generation ≤ collection.generation = subst (λ x. x.generation ≤ collection.generation) (some_is (sym young.there ∙ is)) young.young in
      let placed = live_placed objects slots collection places blocks won sound closed settled name live in
      let d : ℕ × ℕ = dest objects.config.shape (o.generation, o.step) in
      ap (get objects'.objects) (settled.renaming.large_stays name o live is big) ∙ installed.objects name
      ∙ ap (option_map (with_writes writes name)) (installed.replaces.stayed name o is (inr (big, placed)) ∙ ap (λ b. Some (cond b o (at_step o d))) (le-ltb collection.generation o.generation low))
      ∙ ap Some (moved_pointers writes name (at_step o d) (renamed renaming) (field_moved name o is (kept_written name o is low big placed)))

  live_moved : (name : ℕ) (o : Object) → Live old collection.generation name → get objects.objects name ≡ Some o → get objects'.objects (renamed renaming name) ≡ Some (moved_to renaming (dest objects.config.shape (o.generation, o.step)) o)
  live_moved name o live is = ⊎_elim (live_stays name o live is) (live_copy name o live is) (cases_Bool (is_large objects.config.block_words o))

  older_moved : (name : ℕ) (o : Object) → IsOlder old collection.generation name → get objects.objects name ≡ Some o → get objects'.objects name ≡ Some (moved_to renaming (o.generation, o.step) o)
  older_moved name o older is =
      let same : older.object ≡ o = some_is (sym older.there ∙ is) in
      let above : collection.generation < o.generation = subst (λ x. collection.generation < x.generation) same older.older in
      let d : ℕ × ℕ = dest objects.config.shape (o.generation, o.step) in
      installed.objects name
      ∙ ap (option_map (with_writes writes name)) (installed.replaces.stayed name o is (inl above) ∙ ap (λ b. Some (cond b o (at_step o d))) (lt-ltb collection.generation o.generation above))
      ∙ ap Some (moved_pointers writes name o (renamed renaming) (field_moved name o is (older_written name older)))

  old_name : (place : ℕ) → IsOlder old collection.generation place → renamed renaming place ≡ place
  old_name place older = stays objects slots collection places blocks won sound closed settled place (λ young. let same : young.object ≡ older.object = some_is (sym young.there ∙ older.there) in absurd (omega (arith, young.young, older.older, ap (λ x. x.generation) same)))

  -- what stays keeps its name
  same_name : (place : ℕ) (o : Object) → get objects.objects place ≡ Some o → Stays objects collection.generation places place o → renamed renaming place ≡ place
  same_name place o is (inl above) = old_name place (record { object = o; there = is; older = above })
  same_name place o is (inr big) = ⊎_elim
      (λ live. settled.renaming.large_stays place o live is big.0)
      (λ older. old_name place older)
      (stays_kept objects slots collection places blocks won sound closed settled place o is (inr big))

  some_from : (f : Object → Object) (o : Option Object) (x : Object) → option_map f o ≡ Some x → (y : Object) × (o ≡ Some y)
  some_from f None x is = absurd (some_not_none (sym is))
  some_from f (Some y) x is = (y, refl)

  none_else : (place : ℕ) (o : Object) → object_at (heap_of objects' slots').graph place ≡ Some o → (name : ℕ) × IsLiveOrOlder old collection.generation name × (renamed renaming name ≡ place)
  none_else place o is =
      let was = some_from (with_writes writes place) (get installed.replaced.objects place) o (sym (installed.objects place) ∙ is) in
      ⊎_elim
      (λ copy.
      let from = settled.no_others place was.0 copy in
      (from.0, inl (settled.renaming.only_live from.0 place from.1), ap (λ p. unwrap_or p from.0) from.1))
      (λ stayed.
      (place, stays_kept objects slots collection places blocks won sound closed settled place stayed.was stayed.there stayed.stays, same_name place stayed.was stayed.there stayed.stays))
      (installed.replaces.no_others place was.0 was.1)

  collected : Collected objects.config.shape objects.config.block_words old collection.generation renaming (heap_of objects' slots').graph
  collected = record {
    renaming = settled.renaming;
    live = live_moved;
    older = older_moved;
    no_others = none_else;
    roots = λ root. get-roots slots' root ∙ root_is root ∙ ap (option_map _) (sym (get-roots slots root));
  }

  -- each pointer and root leads to an object again
  now_closed : IsClosed (heap_of objects' slots').graph
  now_closed = closed_collected _ _ _ _ _ _ closed collected

  is_in_free : (place : ℕ) → IsIn (numbers_of blocks) place → IsIn objects.free place
  is_in_free place at = (at.0, (at.1.0, (at.1.1.0, at.1.1.1, all_numbers blocks objects.free at.0 settled.were_free at.1.1.2)))

  pub now_sound : AreHeapObjects (heap_of objects' slots')
  now_sound = record { sound = objects_at objects' empty (roots_map slots') [] [] sound'; closed = now_closed }

  -- the blocks of the large objects that are kept, and no others, stay theirs
  blocks_stay : (name : ℕ) (bs : List ℕ) → get objects'.large_blocks name ≡ Some bs → IsLiveOrOlder old collection.generation name × (get objects.large_blocks name ≡ Some bs)
  blocks_stay name bs is =
      let was = (installed.replaces.large_blocks name bs).0 (ap (λ m. get m name) (sym installed.large_blocks) ∙ is) in
      (stays_kept objects slots collection places blocks won sound closed settled name was.1.0 was.1.1 was.1.2, was.0)

  blocks_kept : (name : ℕ) (bs : List ℕ) → IsLiveOrOlder old collection.generation name → get objects.large_blocks name ≡ Some bs → get objects'.large_blocks name ≡ Some bs
  blocks_kept name bs kept is =
      let theirs = sound.large.theirs name bs is in
      let there : get objects.objects name ≡ Some theirs.0 = theirs.1 in
      ap (λ m. get m name) installed.large_blocks
      ∙ (installed.replaces.large_blocks name bs).1 (is, (theirs.0, there, kept_stays objects slots collection places blocks won sound closed settled name theirs.0 there theirs.2.large kept))

  pub collected_heap : IsEnded (heap_of objects slots) collection.generation renaming (heap_of objects' slots')
  collected_heap = record {
    config = installed.config ∙ installed.replaces.config;
    graph = collected;
    fresh = λ name o live is. ⊎_elim (λ big. inl big) (λ at. inr (is_in_free _ at)) (settled.fresh name o live is);
    rooms = installed.rooms ∙ installed.replaces.rooms;
    free = now_sound.sound.free;
    rising = now_sound.sound.rising;
    large_blocks = λ name bs. (blocks_stay name bs, λ h. blocks_kept name bs h.0 h.1);
  }
