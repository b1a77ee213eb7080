-- After a collection the remembered sets are exactly those of the objects.
use Rattle.std.proofs.Common.{◌≡◌, ℕ, suc, ◌+◌, ◌<◌, ◌≤◌, ◌⊎◌, inl, inr, Bool, true, false, List, [], ◌∷◌, length, map, get_or, Option, Some, None, refl, sym, ap, subst, ◌∙◌, arith, ⊎_elim}
use Rattle.std.proofs.lemmas.Bool.{true≢false, cases_lt, cases_eq}
use Rattle.std.proofs.lemmas.Bool.Decides.{nat_tests}
use Rattle.std.proofs.lemmas.Option.{slice_get-map}
use Rattle.std.specs.Prelude.{◌↔◌, ◌-◌, IsTrue, IsSome, is_some, slice_get, slice_index_or, unwrap_or, nat_eq, nat_lt}
use Rattle.std.specs.Option.{option_map, option_map_or, option_and_then}
use Rattle.std.specs.List.{IsDistinct}
use Rattle.std.specs.Ordering.{nat_cmp}
use Rattle.std.specs.FinMap.{get, find}
use Rattle.model.specs.Graph.{Graph, Object, IsClosed, is_large}
use Rattle.model.specs.Destination.{Shape, oldest, dest}
use Rattle.model.specs.Census.{points_younger}
use Rattle.model.specs.Live.{Live, IsYoung}
use Rattle.model.specs.Reached.{has}
use Rattle.model.specs.Collected.{renamed, moved_to}
use Rattle.model.proofs.LiveLemmas.{Live-young}
use Rattle.model.proofs.Finds.{find_all}
use Rattle.model.proofs.Options.{some_is, some_not_none}
use Rattle.model.proofs.NatMap.{find_other, find_same}
use Rattle.layout.specs.declared.place.SmallPlace.{SmallPlace}
use Rattle.layout.specs.declared.place.LargeNumber.{LargeNumber}
use Rattle.layout.specs.declared.place.Place.{Place}
use Rattle.layout.specs.declared.place.Place.TheVariants.{Small, Large}
use Rattle.layout.specs.Place.{place_word, large_word}
use Rattle.block_pool.specs.BlockValue.{BlockValue}
use Rattle.steps.specs.BlockObjects.{copies_of}
use Rattle.steps.specs.CollectionValue.{CollectionValue, young_names}
use Rattle.steps.specs.ReportValue.{renaming_of}
use Rattle.steps.specs.SettledValue.{IsSettled}
use Rattle.steps.specs.CollectedHeap.{CollectedHeap}
use Rattle.steps.specs.Remembered.{CoversYounger, RemembersExactly, is_holder, object_of_generation}
use Rattle.steps.proofs.WonNames.{won_as}
use Rattle.heap_objects.proofs.HeldObjects.{held}
use Rattle.heap_objects.specs.Objects.{ObjectsValue, graph_in, heap_in}
use Rattle.heap_objects.specs.Sound.{AreObjects}
use Rattle.heap_objects.proofs.WithRoots.{objects_at}
use Rattle.heap.specs.Roots.{roots_map}
use Rattle.heap_objects.specs.Collecting.{IsNumbered}
use Rattle.heap.specs.Ended.{IsEnded}
use Rattle.heap.specs.HeapView.{heap_of, heap_with}
use Rattle.heap.specs.IsHeap.{IsHeap, AreHeapObjects}
use Rattle.remembered_set.specs.Sets.{members_of}
use Rattle.heap.specs.Growth.{AreGrown}
use Rattle.heap.specs.Lowest.{MayLeadYounger}
use Rattle.heap.specs.Noted.{IsCopyNoted, IsKeptLarge, AreAllNoted}
use Rattle.heap.proofs.Grown.{grown_has}
use Rattle.heap.proofs.Holding.{PointsTo, at_any, younger_from, younger_is, holder_is}
use Rattle.heap.proofs.WithSets.{free_with, free_without}

-- an object goes at most one generation on
dest_most : (shape : Shape) (h s : ℕ) → (dest shape (h, s)).0 ≤ h + 1
dest_most shape h s = go (nat_lt h (oldest shape)) (nat_lt s (shape.steps - 1)) refl refl
  where
    go : (b c : Bool) → nat_lt h (oldest shape) ≡ b → nat_lt s (shape.steps - 1) ≡ c → (dest shape (h, s)).0 ≤ h + 1
    go true true p q = rw (p, q) (omega arith)
    go true false p q = rw (p, q) (omega arith)
    go false c p q = let le : oldest shape ≤ h = grind (arith, nat_tests, p) in rw p (omega (arith, le))

-- where an entry that is found stands
record Stands (es : List (ℕ × Object)) (q : ℕ) (o : Object) : Type 0 where
  pub place : ℕ
  pub in_range : place < length es
  pub is : (d : ℕ × Object) → get_or es place d ≡ (q, o)

found_stands : (es : List (ℕ × Object)) (q : ℕ) (o : Object) → find nat_cmp q es ≡ Some o → Stands es q o
found_stands [] q o is = absurd (some_not_none (sym is))
found_stands (e ∷ es) q o is = ⊎_elim
    (λ same.
    let here : e.1 ≡ o = some_is (sym (find_same e.0 e.1 es) ∙ ap (λ k. find nat_cmp k (e ∷ es)) (sym same) ∙ is) in
    record { place = 0; in_range = omega arith; is = λ d i. (sym same i, here i) })
    (λ differ.
    let rest = found_stands es q o (sym (find_other q e.0 e.1 es differ) ∙ is) in
    record { place = suc rest.place; in_range = omega (arith, rest.in_range); is = rest.is })
    (cases_eq q e.0)

-- what a moved pointer led to
moved_from : (f : ℕ → ℕ) (pointers : List (Option ℕ)) (i target : ℕ) → slice_get (map (option_map f) pointers) i ≡ Some (Some target) → (old : ℕ) × (slice_get pointers i ≡ Some (Some old)) × (f old ≡ target)
moved_from f pointers i target is = go (slice_get pointers i) refl (sym (slice_get-map (option_map f) pointers i) ∙ is)
  where
    go : (p : Option (Option ℕ)) → slice_get pointers i ≡ p → option_map (option_map f) p ≡ Some (Some target) → (old : ℕ) × (slice_get pointers i ≡ Some (Some old)) × (f old ≡ target)
    go None was e = absurd (some_not_none (sym e))
    go (Some None) was e = absurd (some_not_none (sym (some_is e)))
    go (Some (Some old)) was e = (old, was, some_is (some_is e))

some_place : (o : Option Place) (w : ℕ) → option_map place_word o ≡ Some w → IsSome o
some_place None w e = absurd (some_not_none (sym e))
some_place (Some p) w e = refl

module _ (objects objects' : ObjectsValue) (slots slots' : List (Option Place)) (sets noted_sets sets' : List (List ℕ))
    (collection : CollectionValue) (places : List (Option Place)) (blocks : List BlockValue) (won : List (ℕ × ℕ))
    (sound : AreObjects (heap_in objects))
    (closed : IsClosed (heap_of objects slots).graph)
    (settled : IsSettled (heap_of objects slots) collection places blocks won)
    (covers : CoversYounger (graph_in objects) sets)
    (count : length sets ≡ objects.config.shape.generations)
    (ended : IsEnded (heap_of objects slots) collection.generation (renaming_of (young_names (heap_of objects slots).graph collection.generation) won) (heap_of objects' slots'))
    (whole : AreHeapObjects (heap_of objects' slots'))
    (grown : AreGrown sets noted_sets)
    (lowest : ℕ → ℕ)
    (youngest : ℕ)
    (noted : AreAllNoted lowest youngest noted_sets objects collection.generation places (copies_of blocks))
    (generations : length sets' ≡ length noted_sets)
    (members : (h n : ℕ) → h < length noted_sets → IsTrue (has (members_of sets' h) n) ↔ (IsTrue (has (members_of noted_sets h) n) × IsTrue (is_holder (graph_in objects') h n)))
    (once : (h : ℕ) → h < length noted_sets → IsDistinct nat_eq (members_of sets' h)) where
  abbrev old : Graph
  old = (heap_of objects slots).graph

  abbrev renaming : List (ℕ × ℕ)
  renaming = renaming_of (young_names old collection.generation) won

  -- an object that isn't collected keeps its name
  stays : (name : ℕ) → (IsYoung old collection.generation name → ⊥) → renamed renaming name ≡ name
  stays name not = go (find nat_cmp name renaming) refl
    where
      go : (o : Option ℕ) → find nat_cmp name renaming ≡ o → unwrap_or o name ≡ name
      go None is = refl
      go (Some place) is = absurd (not (Live-young old collection.generation name (settled.renaming.only_live name place is)))

  -- a large object that is live is kept
  live_large : (source : ℕ) (was : Object) → Live old collection.generation source → get objects.objects source ≡ Some was → was.generation ≤ collection.generation → is_large objects.config.block_words was ≡ true → (number : ℕ) × (source ≡ large_word number) × IsKeptLarge objects collection.generation places number was
  live_large source was live there young large =
      let placed = settled.renaming.all_live source live in
      let by = won_as (young_names old collection.generation) won source placed.0 placed.1 in
      let lt : by.number < length (young_names old collection.generation) = omega (arith, find_all (λ n. n < collection.cells) won by.number placed.0 settled.numbers by.found, settled.opened.cells) in
      let numbered : IsNumbered objects collection.generation source by.number = record { in_range = lt; is = by.is } in
      let kept = some_place (slice_index_or places by.number None) placed.0 (settled.same_places by.number ∙ by.found) in
      let at = (sound.places source was there).large large in (
        at.number,
        at.is,
        record {
          there = ap (get objects.objects) (sym at.is) ∙ there;
          young = young;
          place = (by.number, subst (λ n. IsNumbered objects collection.generation n by.number) at.is numbered, kept);
        },
      )

  -- nothing younger stands anywhere
  copy_from : (name source : ℕ) (o : Object) → get objects'.objects name ≡ Some o → Live old collection.generation source → renamed renaming source ≡ name → youngest ≤ o.generation
  copy_from name source o there live at =
      let young = Live-young old collection.generation source live in
      let placed = settled.renaming.all_live source live in
      let moved = some_is (sym (ended.graph.live source young.object live young.there) ∙ ap (get objects'.objects) at ∙ there) in
      let same : o.generation ≡ (dest objects.config.shape (young.object.generation, young.object.step)).0 = sym (ap (λ x. x.generation) moved) in
      ⊎_elim
      (λ large.
      let kept = live_large source young.object live young.there young.young large in
      omega (arith, noted.large_from kept.0 young.object kept.2, same))
      (λ copied.
      let stands = found_stands (copies_of blocks) placed.0 o (copied ∙ ap Some moved) in
      let e : ℕ × Object = (placed.0, o) in
      subst (λ x. youngest ≤ x.1.generation) (stands.is e) (noted.copies_from stands.place e stands.in_range))
      (settled.copies source placed.0 young.object placed.1 young.there)

  not_young : (name : ℕ) (o : Object) → get objects.objects name ≡ Some o → collection.generation < o.generation → renamed renaming name ≡ name
  not_young name o is above = stays name (λ young. let same : young.object ≡ o = some_is (sym young.there ∙ is) in absurd (omega (arith, young.young, above, ap (λ x. x.generation) same)))

  none_younger : (name : ℕ) (o : Object) → get objects'.objects name ≡ Some o → youngest ≤ o.generation
  none_younger name o there =
      let from = ended.graph.no_others name o there in
      ⊎_elim
      (λ live. copy_from name from.0 o there live from.2)
      (λ older.
      let same : from.0 ≡ name = sym (not_young from.0 older.object older.there older.older) ∙ from.2 in
      let moved = some_is (sym (ended.graph.older from.0 older.object older older.there) ∙ ap (get objects'.objects) same ∙ there) in
      omega (arith, noted.stays, older.older, ap (λ x. x.generation) moved))
      from.1

  -- a small object that stands there is a copy of no generation below what is said of its block, or it isn't collected
  low_in_block : (name : ℕ) (o : Object) (at : SmallPlace) → get objects'.objects name ≡ Some o → name ≡ place_word (Small at) → (lowest at.block ≤ o.generation) ⊎ (collection.generation < o.generation)
  low_in_block name o at there word =
      let from = ended.graph.no_others name o there in
      ⊎_elim
      (λ live.
      let young = Live-young old collection.generation from.0 live in
      let placed = settled.renaming.all_live from.0 live in
      let new : placed.0 ≡ name = sym (ap (λ p. unwrap_or p from.0) placed.1) ∙ from.2 in
      let moved = some_is (sym (ended.graph.live from.0 young.object live young.there) ∙ ap (get objects'.objects) from.2 ∙ there) in
      ⊎_elim
      (λ large.
      let same : from.0 ≡ name = sym (settled.renaming.large_stays from.0 young.object live young.there large) ∙ from.2 in
      let high = (sound.places from.0 young.object young.there).large large in
      absurd (omega (arith, same, word, high.is, at.block_in_range, at.offset_in_range)))
      (λ copied.
      let stands = found_stands (copies_of blocks) placed.0 o (copied ∙ ap Some moved) in
      let e : ℕ × Object = (placed.0, o) in
      inl (subst (λ x. x.0 ≡ place_word (Small at) → lowest at.block ≤ x.1.generation) (stands.is e) (noted.blocks stands.place e stands.in_range at) (new ∙ word)))
      (settled.copies from.0 placed.0 young.object placed.1 young.there))
      (λ older.
      let same : from.0 ≡ name = sym (not_young from.0 older.object older.there older.older) ∙ from.2 in
      let moved = some_is (sym (ended.graph.older from.0 older.object older older.there) ∙ ap (get objects'.objects) same ∙ there) in
      inr (omega (arith, older.older, ap (λ x. x.generation) moved)))
      from.1

  -- a copy that points to a younger object has a pointer that may lead to one by its block
  may_lead : (o : Object) → o.generation ≤ collection.generation + 1 → PointsTo (get objects'.objects) o → MayLeadYounger lowest o.generation o.pointers
  may_lead o most points = by_size (is_large (heap_of objects' slots').config.block_words points.other) refl
    where
      by_size : (b : Bool) → is_large (heap_of objects' slots').config.block_words points.other ≡ b → MayLeadYounger lowest o.generation o.pointers
      by_size true large =
          let at = (whole.sound.places points.target points.other points.there).large large in
          let of : LargeNumber = record { number = at.number; in_range = at.in_range } in
          record { field = points.field; place = Large of; pointer = points.pointer ∙ ap (λ w. Some (Some w)) at.is; younger = tt }
      by_size false small =
          let at = (whole.sound.places points.target points.other points.there).small small in
          let place : SmallPlace = record {
            block = at.block;
            offset = at.offset;
            block_in_range = omega (arith, at.block_in_range, whole.sound.range.most_blocks);
            offset_in_range = at.offset_in_range;
          } in
          let below : lowest at.block < o.generation = ⊎_elim
          (λ low. omega (arith, low, points.younger))
          (λ above. absurd (omega (arith, above, most, points.younger)))
          (low_in_block points.target points.other place points.there at.is) in
          record { field = points.field; place = Small place; pointer = points.pointer ∙ ap (λ w. Some (Some w)) at.is; younger = below }

  -- so what points to a younger object is older than the youngest
  is_older : (o : Object) → PointsTo (get objects'.objects) o → youngest < o.generation
  is_older o points = omega (arith, none_younger points.target points.other points.there, points.younger)

  -- a large object that the collection keeps and that points to a younger one was noted
  large_noted : (source : ℕ) (was o : Object) → Live old collection.generation source → get objects.objects source ≡ Some was → was.generation ≤ collection.generation → is_large objects.config.block_words was ≡ true → moved_to renaming (dest objects.config.shape (was.generation, was.step)) was ≡ o → PointsTo (get objects'.objects) o → o.generation < length noted_sets → has (members_of noted_sets o.generation) source ≡ true
  large_noted source was o live there young large moved points low =
      let at = live_large source was live there young large in
      let same : o.generation ≡ (dest objects.config.shape (was.generation, was.step)).0 = sym (ap (λ x. x.generation) moved) in
      let from = moved_from (renamed renaming) was.pointers points.field points.target (ap (λ x. slice_get x.pointers points.field) moved ∙ points.pointer) in
      let some = at_any is_some was.pointers points.field (Some from.0) from.1 refl in
      let member = noted.large at.0 was at.2 (omega (arith, same, is_older o points)) (omega (arith, same, low)) some in
      subst (λ n. has (members_of noted_sets o.generation) n ≡ true) (sym at.1) (subst (λ h. has (members_of noted_sets h) (large_word at.0) ≡ true) (sym same) member)

  -- a copy that points to a younger object was noted
  small_noted : (name : ℕ) (was o : Object) → was.generation ≤ collection.generation → find nat_cmp name (copies_of blocks) ≡ Some (moved_to renaming (dest objects.config.shape (was.generation, was.step)) was) → moved_to renaming (dest objects.config.shape (was.generation, was.step)) was ≡ o → PointsTo (get objects'.objects) o → o.generation < length noted_sets → has (members_of noted_sets o.generation) name ≡ true
  small_noted name was o young copied moved points low =
      let stands = found_stands (copies_of blocks) name o (copied ∙ ap Some moved) in
      let e : ℕ × Object = (name, o) in
      let most : o.generation ≤ collection.generation + 1 = omega (arith, ap (λ x. x.generation) moved, dest_most objects.config.shape was.generation was.step, young) in
      subst (IsCopyNoted lowest youngest noted_sets) (stands.is e) (noted.copies stands.place e stands.in_range) (is_older o points) low (may_lead o most points)

  copy_noted : (name source : ℕ) (o : Object) → get objects'.objects name ≡ Some o → PointsTo (get objects'.objects) o → o.generation < length noted_sets → Live old collection.generation source → renamed renaming source ≡ name → has (members_of noted_sets o.generation) name ≡ true
  copy_noted name source o there points low live at =
      let young = Live-young old collection.generation source live in
      let placed = settled.renaming.all_live source live in
      let new : placed.0 ≡ name = sym (ap (λ p. unwrap_or p source) placed.1) ∙ at in
      let moved = some_is (sym (ended.graph.live source young.object live young.there) ∙ ap (get objects'.objects) at ∙ there) in
      ⊎_elim
      (λ large.
      let same : source ≡ name = sym (settled.renaming.large_stays source young.object live young.there large) ∙ at in
      subst (λ n. has (members_of noted_sets o.generation) n ≡ true) same (large_noted source young.object o live young.there young.young large moved points low))
      (λ copied. small_noted name young.object o young.young (ap (λ k. find nat_cmp k (copies_of blocks)) (sym new) ∙ copied) moved points low)
      (settled.copies source placed.0 young.object placed.1 young.there)

  -- an older object that points to a younger one did so before
  pointed : (source : ℕ) (was : Object) → get objects.objects source ≡ Some was → collection.generation < was.generation → PointsTo (get objects'.objects) (moved_to renaming (was.generation, was.step) was) → PointsTo (get objects.objects) was
  pointed source was is above points =
      let from = moved_from (renamed renaming) was.pointers points.field points.target points.pointer in
      let leads = closed.fields source points.field from.0 (ap (option_and_then (λ x. slice_get x.pointers points.field)) is ∙ from.1) in
      record {
        field = points.field;
        target = from.0;
        pointer = from.1;
        other = leads.0;
        there = leads.1;
        younger = ⊎_elim
            (λ older.
            let moved = ended.graph.older from.0 leads.0 (record { object = leads.0; there = leads.1; older = older }) leads.1 in
            let stayed : points.target ≡ from.0 = sym from.2 ∙ not_young from.0 leads.0 leads.1 older in
            let same = some_is (sym moved ∙ ap (get objects'.objects) (sym stayed) ∙ points.there) in
            omega (arith, ap (λ x. x.generation) same, points.younger))
            (λ young. omega (arith, young, above))
            (cases_lt collection.generation leads.0.generation);
      }

  -- each object that points to a younger one is among those that were noted
  covered : (h name : ℕ) → is_holder (graph_in objects') h name ≡ true → (h < length noted_sets) × (has (members_of noted_sets h) name ≡ true)
  covered h name holder = go (object_of_generation (graph_in objects') h name) refl holder
    where
      go : (found : Option Object) → object_of_generation (graph_in objects') h name ≡ found → option_map_or (points_younger (get objects'.objects)) found false ≡ true → (h < length noted_sets) × (has (members_of noted_sets h) name ≡ true)
      go None is e = absurd (true≢false (sym e))
      go (Some o) is e =
          let at = held (graph_in objects') h name o is in
          let points = younger_from (get objects'.objects) o e in
          let step = (whole.sound.objects name o at.0).step in
          let low : o.generation < length noted_sets = omega (arith, step.generation, ap (λ c. c.shape.generations) ended.config, count, grown.generations) in
          let from = ended.graph.no_others name o at.0 in
          let there = ⊎_elim
          (λ live. copy_noted name from.0 o at.0 points low live from.2)
          (λ older.
          let stayed = not_young from.0 older.object older.there older.older in
          let same : from.0 ≡ name = sym stayed ∙ from.2 in
          let moved = some_is (sym (ended.graph.older from.0 older.object older older.there) ∙ ap (get objects'.objects) same ∙ at.0) in
          let before = pointed from.0 older.object older.there older.older (subst (PointsTo (get objects'.objects)) (sym moved) points) in
          let held_before = holder_is (graph_in objects) from.0 older.object older.there (younger_is (get objects.objects) older.object before) in
          let member = grown_has sets noted_sets grown older.object.generation from.0 (covers older.object.generation from.0 held_before) in
          subst (λ n. has (members_of noted_sets o.generation) n ≡ true) same (subst (λ k. has (members_of noted_sets k) from.0 ≡ true) (ap (λ x. x.generation) moved) member))
          from.1 in
          (omega (arith, low, at.1), subst (λ k. has (members_of noted_sets k) name ≡ true) at.1 there)

  exact : RemembersExactly (graph_in objects') sets'
  exact h lt =
      let low : h < length noted_sets = omega (arith, lt, generations) in
      record {
        once = once h low;
        exact = λ name. (λ member. ((members h name low).0 member).1, λ holder. (members h name low).1 ((covered h name holder).1, holder));
      }

  pub collected_with : CollectedHeap (heap_with objects slots sets) collection.generation renaming (heap_with objects' slots' sets')
  collected_with = record {
    config = ended.config;
    graph = ended.graph;
    fresh = ended.fresh;
    rooms = ended.rooms;
    free = λ block. (λ h. free_with objects' slots' sets' block ((ended.free block).0 h), λ free. (ended.free block).1 (free_without objects' slots' sets' block free));
    rising = ended.rising;
    large_blocks = ended.large_blocks;
    sets = generations ∙ grown.generations;
    remembered = λ h lt. let here = exact h lt in record { once = here.once; exact = here.exact };
  }

  pub whole_with : IsHeap (heap_with objects' slots' sets')
  whole_with = record {
    blocks = record { sound = objects_at objects' (roots_map slots') (roots_map slots') [] sets' whole.sound; closed = whole.closed };
    sets = omega (arith, generations, grown.generations, count, ap (λ c. c.shape.generations) ended.config);
    remembered = λ h name holder. let there = covered h name holder in (members h name there.0).1 (there.1, holder);
  }
