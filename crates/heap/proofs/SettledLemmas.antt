-- What workers bring back to a heap.
use Rattle.std.proofs.Common.{◌≡◌, ℕ, zero, suc, ◌+◌, ◌-◌, ◌/◌, ◌<◌, ◌≤◌, Bool, true, false, cond, List, [], ◌∷◌, length, map, get_or, Option, Some, None, refl, sym, ap, subst, ◌∙◌, arith, ⊎_elim, inl, inr}
use Rattle.std.proofs.lemmas.Bool.{true≢false, cases_lt}
use Rattle.std.proofs.lemmas.Bool.Decides.{nat_tests}
use Rattle.std.proofs.lemmas.List.{length-map}
use Rattle.std.proofs.lemmas.List.Elements.{All-cons}
use Rattle.std.specs.Prelude.{IsSome, IsTrue, nat_lt, slice_get, slice_index, slice_index_or, All, unwrap_or, is_some, filter}
use Rattle.std.specs.Option.{option_map, option_and_then}
use Rattle.std.specs.Ordering.{nat_cmp}
use Rattle.std.specs.FinMap.{get, keys, find, entries}
use Rattle.model.specs.Graph.{Graph, Object, IsClosed, object_at, field_at, size_of, is_large}
use Rattle.model.specs.Live.{Live, IsYoung, IsRooted, IsEdge}
use Rattle.model.specs.OldSlots.{Slot, is_young_name, old_slots}
use Rattle.model.specs.Laws.{IsOldToYoung}
use Rattle.model.specs.Reached.{has, first, later}
use Rattle.model.specs.Collected.{IsLiveOrOlder, renamed, moved_to}
use Rattle.model.specs.Destination.{Shape, IsStep, dest, oldest, steps_in}
use Rattle.model.proofs.Among.{Among, among_either, Contains-among}
use Rattle.model.proofs.LiveLemmas.{Live-young}
use Rattle.model.proofs.OldSlotsExact.{old_slots_exact, young_name}
use Rattle.layout.specs.declared.place.Place.{Place}
use Rattle.layout.specs.Place.{place_word}
use Rattle.block_pool.specs.BlockValue.{BlockValue}
use Rattle.heap.specs.HeapView.{heap_of}
use Rattle.heap.specs.Roots.{roots_map}
use Rattle.heap.specs.Moves.{Moves}
use Rattle.heap_objects.specs.Objects.{ObjectsValue, graph_in, heap_in}
use Rattle.heap_objects.specs.Collecting.{IsNumbered, Stays, new_place}
use Rattle.heap_objects.specs.Sound.{AreObjects}
use Rattle.heap.specs.LargeSlots.{IsLargeSlot}
use Rattle.steps.specs.BlockObjects.{copies_of}
use Rattle.steps.specs.ReportValue.{renaming_of}
use Rattle.steps.specs.CollectionValue.{CollectionValue, SlotValue, root_slot, field_slot_of, target_of_slot, young_names, IsNumbering}
use Rattle.steps.specs.CollectedHeap.{IsFreeBlock}
use Rattle.nursery.proofs.Installed.{EachFits}
use Rattle.steps.specs.SettledValue.{IsSettled}
use Rattle.model.proofs.RisingKeys.{same_index, keys-filter_rise}
use Rattle.heap.proofs.RootMap.{entry-root}
use Rattle.nursery.proofs.TableSteps.{in_list}
use Rattle.steps.proofs.WonNames.{won_as, find-renaming}
use Rattle.model.proofs.Finds.{find_all}
use Rattle.model.proofs.Options.{some_is, some_not_none}
use Rattle.model.proofs.Has.{has_none, has-cons, has_filter}
use Rattle.model.proofs.MapKeys.{key_has}
use Rattle.heap.proofs.GraphIn.{young_of}
use Rattle.heap.proofs.Ranks.{number_place}
use Rattle.heap.proofs.CopyWords.{copies_low}
use Rattle.heap.proofs.FieldSlots.{name_young}

some_place : (o : Option Place) (w : ℕ) → option_map place_word o ≡ Some w → IsSome o
some_place None w e = absurd (some_not_none (sym e))
some_place (Some p) w e = refl

filter_at : (p : ℕ → Bool) (xs : List ℕ) (k : ℕ) → k < length (filter p xs) → p (get_or (filter p xs) k 0) ≡ true
filter_at p [] k lt = absurd (omega (arith, lt))
filter_at p (x ∷ xs) k lt = go (λ j h. filter_at p xs j h) (p x) refl k lt
  where
    go : ((j : ℕ) → j < length (filter p xs) → p (get_or (filter p xs) j 0) ≡ true) → (b : Bool) → p x ≡ b → (k : ℕ) → k < length (cond b (x ∷ filter p xs) (filter p xs)) → p (get_or (cond b (x ∷ filter p xs) (filter p xs)) k 0) ≡ true
    go rest true e zero lt = e
    go rest true e (suc k) lt = rest k (omega (arith, lt))
    go rest false e k lt = rest k lt

pub all_among : {X : Type 0} (P : X → Type 0) (xs : List X) → ((x : X) → Among x xs → P x) → All P xs
all_among P [] each = λ k d lt. absurd (omega (arith, lt))
all_among P (x ∷ xs) each = All-cons P x xs (each x (inl refl)) (all_among P xs (λ y h. each y (inr h)))

pub among_map : {X Y : Type 0} (f : X → Y) (xs : List X) (y : Y) → Among y (map f xs) → (x : X) × Among x xs × (y ≡ f x)
among_map f [] y h = absurd h
among_map f (x ∷ xs) y (inl e) = (x, inl refl, e)
among_map f (x ∷ xs) y (inr h) = let rest = among_map f xs y h in (rest.0, inr rest.1, rest.2)

-- a destination is a step of the shape
pub dest_is_step : (shape : Shape) (at : ℕ × ℕ) → 1 ≤ shape.generations → 1 ≤ shape.steps → IsStep shape at → IsStep shape (dest shape at)
dest_is_step shape at some many is = go (nat_lt at.0 (oldest shape)) refl (nat_lt at.1 (shape.steps - 1)) refl
  where
    in_step : (b : Bool) → 0 < cond b shape.steps 1
    in_step true = omega arith
    in_step false = omega arith

    go : (a : Bool) → nat_lt at.0 (oldest shape) ≡ a → (b : Bool) → nat_lt at.1 (shape.steps - 1) ≡ b → IsStep shape (cond a (cond b (at.0, at.1 + 1) (at.0 + 1, 0)) (oldest shape, 0))
    go true young true more = record {
      generation = is.generation;
      step = let steps : steps_in shape at.0 ≡ shape.steps = ap (λ b. cond b shape.steps 1) young in let lt : at.1 < shape.steps - 1 = grind (arith, nat_tests, more) in omega (arith, steps, lt);
    }
    go true young false more = record {
      generation = let lt : at.0 < oldest shape = grind (arith, nat_tests, young) in omega (arith, lt);
      step = in_step (nat_lt (at.0 + 1) (oldest shape));
    }
    go false young b more = record { generation = omega arith; step = in_step (nat_lt (oldest shape) (oldest shape)) }

-- a member of a list stands somewhere in it
has_index : (xs : List ℕ) (q : ℕ) → has xs q ≡ true → (k : ℕ) × (k < length xs) × (get_or xs k 0 ≡ q)
has_index [] q h = has_none q h
has_index (x ∷ xs) q h = ⊎_elim
    (λ same. (0, omega arith, sym same))
    (λ rest. let at = has_index xs q rest in (suc at.0, omega (arith, at.1), at.2))
    (has-cons x xs q h)

module _ (objects : ObjectsValue) (slots : List (Option Place)) (collection : CollectionValue) (places : List (Option Place)) (blocks : List BlockValue) (won : List (ℕ × ℕ))
    (sound : AreObjects (heap_in objects))
    (closed : IsClosed (heap_of objects slots).graph)
    (settled : IsSettled (heap_of objects slots) collection places blocks won) where
  abbrev pub graph : Graph
  graph = (heap_of objects slots).graph

  abbrev pub names : List ℕ
  names = young_names graph collection.generation

  abbrev pub places_new : List (ℕ × ℕ)
  places_new = renaming_of names won

  pub places_many : length places ≡ length (young_names (graph_in objects) collection.generation)
  places_many = settled.places_count ∙ settled.opened.cells

  -- how the objects are numbered, whatever the roots are
  pub numbering : IsNumbering (graph_in objects) collection.generation collection.numbering
  numbering = record {
    few = settled.opened.numbering.few;
    blocks = settled.opened.numbering.blocks;
    covers = λ block offset low lt young. settled.opened.numbering.covers block offset low lt (young_of objects slots collection.generation _ young);
    large = settled.opened.numbering.large;
    covers_large = λ number young. settled.opened.numbering.covers_large number (young_of objects slots collection.generation _ young);
  }

  pub named_once : (a b : ℕ) → a < length names → b < length names → slice_index names a ≡ slice_index names b → a ≡ b
  named_once a b la lb is = same_index names a b (keys-filter_rise objects.objects _) la lb is

  pub numbers_named : All (λ e. e.0 < length names) won
  numbers_named = λ k d lt. omega (arith, settled.numbers k d lt, settled.opened.cells)

  -- the new word of the name with a number that has a place
  pub new_name : (number : ℕ) (place : Place) → slice_index_or places number None ≡ Some place → find nat_cmp (slice_index names number) places_new ≡ Some (place_word place)
  new_name number place is =
      let found : find nat_cmp number won ≡ Some (place_word place) = sym (settled.same_places number) ∙ ap (option_map place_word) is in
      let lt : number < length names = omega (arith, in_list places number place is, settled.places_count, settled.opened.cells) in
      find-renaming names won number (place_word place) named_once numbers_named lt found

  -- an object that isn't collected keeps its name
  pub stays : (name : ℕ) → (IsYoung graph collection.generation name → ⊥) → renamed places_new name ≡ name
  stays name not = go (find nat_cmp name places_new) refl
    where
      go : (o : Option ℕ) → find nat_cmp name places_new ≡ o → unwrap_or o name ≡ name
      go None is = refl
      go (Some place) is = absurd (not (Live-young graph collection.generation name (settled.renaming.only_live name place is)))

  pub moves : Moves objects collection.generation places (renamed places_new)
  moves = record {
    young = λ number place is. ap (λ f. unwrap_or f (slice_index names number)) (new_name number place is);
    older = λ name not. stays name (λ young. not (record { object = young.object; there = young.there; young = young.young }));
  }

  pub numbered_young : (name number : ℕ) → IsNumbered objects collection.generation name number → IsYoung graph collection.generation name
  numbered_young name number is =
      young_name graph collection.generation name (subst (λ n. is_young_name graph collection.generation n ≡ true) is.is (filter_at (is_young_name graph collection.generation) (keys objects.objects) number is.in_range))

  -- a live object has a new place
  pub live_named : (name number : ℕ) → Live graph collection.generation name → IsNumbered objects collection.generation name number → IsSome (slice_index_or places number None)
  live_named name number alive is =
      let live = settled.renaming.all_live name alive in
      let won_by = won_as names won name live.0 live.1 in
      let low : won_by.number < length names = find_all (λ n. n < length names) won won_by.number live.0 numbers_named won_by.found in
      let same : won_by.number ≡ number = named_once won_by.number number low is.in_range (won_by.is ∙ sym is.is) in
      some_place (slice_index_or places number None) live.0 (settled.same_places number ∙ ap (λ n. find nat_cmp n won) (sym same) ∙ won_by.found)

  pub live_placed : (name : ℕ) → Live graph collection.generation name → IsSome (new_place objects collection.generation places name)
  live_placed name alive =
      let live = settled.renaming.all_live name alive in
      let won_by = won_as names won name live.0 live.1 in
      let low : won_by.number < length names = find_all (λ n. n < length names) won won_by.number live.0 numbers_named won_by.found in
      subst (λ o. IsSome o) (sym (number_place objects collection.generation places name won_by.number (record { in_range = low; is = won_by.is }))) (live_named name won_by.number alive (record { in_range = low; is = won_by.is }))

  -- a young object that has a new place was won, so it is live
  pub placed_live : (name : ℕ) → IsYoung graph collection.generation name → IsSome (new_place objects collection.generation places name) → Live graph collection.generation name
  placed_live name young placed =
      let at = has_index names name (has_filter (is_young_name graph collection.generation) (keys objects.objects) name (key_has objects.objects name (ap is_some young.there)) (name_young graph collection.generation name young)) in
      go at.0 at.2 (slice_index_or places at.0 None) refl (subst (λ o. IsSome o) (number_place objects collection.generation places name at.0 (record { in_range = at.1; is = at.2 })) placed)
    where
      go : (number : ℕ) → slice_index names number ≡ name → (o : Option Place) → slice_index_or places number None ≡ o → IsSome o → Live graph collection.generation name
      go number named None is some = absurd (true≢false (sym some))
      go number named (Some place) is some = settled.renaming.only_live name (place_word place) (subst (λ n. find nat_cmp n places_new ≡ Some (place_word place)) named (new_name number place is))

  -- what stays is kept, and each large object that is kept stays
  pub stays_kept : (name : ℕ) (o : Object) → object_at graph name ≡ Some o → Stays objects collection.generation places name o → IsLiveOrOlder graph collection.generation name
  stays_kept name o is (inl above) = inr (record { object = o; there = is; older = above })
  stays_kept name o is (inr large) = ⊎_elim
      (λ above. inr (record { object = o; there = is; older = above }))
      (λ low. inl (placed_live name (record { object = o; there = is; young = low }) large.1))
      (cases_lt collection.generation o.generation)

  pub kept_stays : (name : ℕ) (o : Object) → object_at graph name ≡ Some o → IsTrue (is_large objects.config.block_words o) → IsLiveOrOlder graph collection.generation name → Stays objects collection.generation places name o
  kept_stays name o is large (inl alive) = inr (large, live_placed name alive)
  kept_stays name o is large (inr older) = inl (subst (λ x. collection.generation < x.generation) (some_is (sym older.there ∙ is)) older.older)

  -- what a slot leads to: an object, which is live where it is collected
  record LeadsToLive (slot : SlotValue) : Type 0 where
    pub object : Object
    pub there : object_at graph (target_of_slot slot) ≡ Some object
    pub live : IsYoung graph collection.generation (target_of_slot slot) → Live graph collection.generation (target_of_slot slot)

  pub generations_below : (name : ℕ) (o : Object) → object_at graph name ≡ Some o → o.generation < objects.config.shape.generations
  generations_below name o is = (sound.objects name o is).step.generation

  pub old_slot : (slot : Slot) → Among slot (old_slots graph objects.config.shape.generations collection.generation) → IsOldToYoung graph collection.generation slot
  old_slot slot h = (old_slots_exact graph objects.config.shape.generations collection.generation slot generations_below).0 (Contains-among _ slot h)

  each_slot : (slot : SlotValue) → Among slot collection.slots → LeadsToLive slot
  each_slot slot h = ⊎_elim of_root of_field (among_either _ _ slot (subst (Among slot) settled.opened.slots h))
    where
      of_root : Among slot (map (λ e. root_slot e.0 e.1) (entries (roots_map slots))) → LeadsToLive slot
      of_root at =
          let e = among_map (λ (x : ℕ × ℕ). root_slot x.0 x.1) (entries (roots_map slots)) slot at in
          let root_is = entry-root slots e.0 e.1 in
          let there = closed.roots e.0.0 e.0.1 root_is in
          rw e.2 (record { object = there.0; there = there.1; live = λ young. let rooted : IsRooted graph e.0.1 = record { root = e.0.0; leads = root_is } in first (young, inl rooted) })

      of_field : Among slot (map field_slot_of (old_slots graph objects.config.shape.generations collection.generation)) → LeadsToLive slot
      of_field at =
          let e = among_map field_slot_of (old_slots graph objects.config.shape.generations collection.generation) slot at in
          let is = old_slot e.0 e.1 in
          rw e.2 (record { object = is.young.object; there = is.young.there; live = λ young. first (young, inr (e.0.holder, (e.0.field, is.old))) })

  pub slots_lead : All (λ slot. IsSome (get objects.objects (target_of_slot slot))) collection.slots
  slots_lead = all_among (λ slot. IsSome (get objects.objects (target_of_slot slot))) collection.slots (λ slot h. ap is_some (each_slot slot h).there)

  pub slots_named : All (λ slot. (number : ℕ) → IsNumbered objects collection.generation (target_of_slot slot) number → IsSome (slice_index_or places number None)) collection.slots
  slots_named = all_among (λ slot. (number : ℕ) → IsNumbered objects collection.generation (target_of_slot slot) number → IsSome (slice_index_or places number None)) collection.slots (λ slot h number numbered. live_named (target_of_slot slot) number ((each_slot slot h).live (numbered_young (target_of_slot slot) number numbered)) numbered)

  pub large_field : (slot : Slot) → IsLargeSlot objects collection.generation places slot → field_at graph slot.holder slot.field ≡ Some (Some slot.target)
  large_field slot is = ap (option_and_then (λ (x : Object). slice_get x.pointers slot.field)) is.there ∙ is.leads

  -- what a pointer of a large object that is kept leads to
  large_slot : (slot : Slot) → IsLargeSlot objects collection.generation places slot → LeadsToLive (field_slot_of slot)
  large_slot slot is =
      let holder = placed_live slot.holder (record { object = is.holder; there = is.there; young = is.young }) is.kept in
      record {
        object = is.to_young.object;
        there = is.to_young.there;
        live = λ young. (let edge : IsEdge graph collection.generation slot.holder slot.target = record { i = slot.field; leads = large_field slot is; young = young } in later holder edge);
      }

  -- which has a new place where it has a number
  pub kept_named : (slot : Slot) → IsLargeSlot objects collection.generation places slot → (number : ℕ) → IsNumbered objects collection.generation slot.target number → IsSome (slice_index_or places number None)
  kept_named slot is number numbered = live_named slot.target number ((large_slot slot is).live (numbered_young slot.target number numbered)) numbered

  -- the blocks were free, so their numbers are low
  pub low_numbers : All (λ b. b.number < 65535) blocks
  low_numbers = λ k d lt. (let free : IsFreeBlock (heap_in objects) (get_or blocks k d).number = (sound.free (get_or blocks k d).number).0 (settled.were_free k d lt) in omega (arith, free.in_range, sound.range.most_blocks))

  -- a large object's place is above those of all copies
  large_above : (name : ℕ) (o : Object) → object_at graph name ≡ Some o → IsTrue (is_large objects.config.block_words o) → 9223372036854775808 ≤ name
  large_above name o is large = let place = (sound.places name o is).large large in omega (arith, place.is)

  -- each copy is small, and at a step of the shape
  pub copies_sound : EachFits blocks → (place : ℕ) (o : Object) → find nat_cmp place (copies_of blocks) ≡ Some o → IsStep objects.config.shape (o.generation, o.step) × (size_of o ≤ objects.config.block_words / 4)
  copies_sound fits place o is =
      let from = settled.no_others place o is in
      let alive = settled.renaming.only_live from.0 place from.1 in
      let young = Live-young graph collection.generation from.0 alive in
      go from.0 from.1 alive young.object young.there (is_large objects.config.block_words young.object) refl
    where
      not_large : (x : Object) → is_large objects.config.block_words x ≡ false → size_of x ≤ objects.config.block_words / 4
      not_large x small = grind (arith, nat_tests, small)

      go : (name : ℕ) → find nat_cmp name places_new ≡ Some place → Live graph collection.generation name → (x : Object) → object_at graph name ≡ Some x → (b : Bool) → is_large objects.config.block_words x ≡ b → IsStep objects.config.shape (o.generation, o.step) × (size_of o ≤ objects.config.block_words / 4)
      go name at alive x there true large =
          let same : place ≡ name = sym (ap (λ f. unwrap_or f name) at) ∙ settled.renaming.large_stays name x alive there large in
          absurd (omega (arith, large_above name x there large, copies_low blocks place o fits low_numbers is, same))
      go name at alive x there false small = ⊎_elim
          (λ large. absurd (true≢false (sym large ∙ small)))
          (λ copied.
          let same : o ≡ moved_to places_new (dest objects.config.shape (x.generation, x.step)) x = some_is (sym is ∙ copied) in
          let step = dest_is_step objects.config.shape (x.generation, x.step) sound.range.some_generation sound.range.some_step (sound.objects name x there).step in
          let many : length (map (option_map (renamed places_new)) x.pointers) ≡ length x.pointers = length-map x.pointers _ in
          rw same (step, omega (arith, not_large x small, many)))
          (settled.copies name place x at there)
