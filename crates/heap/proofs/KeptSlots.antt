-- The pointers of large objects that a collection keeps, one object after the other.
use Rattle.std.proofs.Common.{◌≡◌, ℕ, ◌+◌, ◌<◌, Bool, true, false, ◌&&◌, cond, List, [], ◌++◌, map, Option, Some, None, refl, sym, ap, subst, ◌∙◌, arith, ⊎_elim}
use Rattle.std.proofs.lemmas.Bool.{cases_eq, cases_lt, cases_Bool, le-leb, leb-true, eq-eqb, and_from, and_left, and_right, and_parts}
use Rattle.std.proofs.lemmas.List.{map-append}
use Rattle.std.specs.Prelude.{IsSome, IsTrue, is_some, nat_eq, nat_le, slice_get, slice_index_or}
use Rattle.std.specs.Option.{option_map, option_map_or, option_and_then}
use Rattle.std.specs.FinMap.{get}
use Rattle.model.specs.Graph.{Object, is_large}
use Rattle.model.specs.Live.{IsYoung}
use Rattle.model.specs.OldSlots.{Slot, slots_of_fields}
use Rattle.model.proofs.Among.{Among, among_Contains, Contains-among, among_left, among_right, among_either}
use Rattle.model.proofs.OldSlotsExact.{young_name}
use Rattle.model.proofs.Options.{some_is, some_not_none}
use Rattle.layout.specs.Place.{large_word}
use Rattle.layout.specs.declared.place.Place.{Place}
use Rattle.steps.specs.StepPairs.{stands_at}
use Rattle.steps.specs.CollectionValue.{SlotValue, field_slot_of}
use Rattle.heap_objects.specs.HeapGraph.{slots_at}
use Rattle.heap_objects.specs.Objects.{ObjectsValue, graph_in, heap_in}
use Rattle.heap_objects.specs.Collecting.{IsNumbered, new_place, NoLargeFrom, IsNextLarge}
use Rattle.heap_objects.specs.Sound.{AreObjects}
use Rattle.heap.specs.LargeSlots.{IsLargeSlot, AreLargeSlots, kept_slots}
use Rattle.heap.proofs.FieldSlots.{name_young, IsSlotOf, slots_from_list, slots_to_list}
use Rattle.heap.proofs.Ranks.{number_place}

module _ (objects : ObjectsValue) (g : ℕ) (places : List (Option Place)) where
  kept_at : (name : ℕ) (o : Object) (b : Bool) → get objects.objects name ≡ Some o → (nat_le o.generation g && is_some (new_place objects g places name)) ≡ b → kept_slots objects g places name ≡ cond b (slots_of_fields (graph_in objects) g name 0 o.pointers) []
  kept_at name o b is test =
      ap (λ x. option_map_or (λ (y : Object). cond (nat_le y.generation g && is_some (new_place objects g places name)) (slots_of_fields (graph_in objects) g name 0 y.pointers) []) x []) is
      ∙ ap (λ t. cond t (slots_of_fields (graph_in objects) g name 0 o.pointers) []) test

  kept-none : (name : ℕ) → get objects.objects name ≡ None → kept_slots objects g places name ≡ []
  kept-none name is = ap (λ x. option_map_or (λ (y : Object). cond (nat_le y.generation g && is_some (new_place objects g places name)) (slots_of_fields (graph_in objects) g name 0 y.pointers) []) x []) is

  -- where the object is young and has a new place, these are its pointers
  pub kept_here : (name number h s : ℕ) → IsYoung (graph_in objects) g name → IsNumbered objects g name number → IsSome (slice_index_or places number None) → Some (h, s) ≡ option_map stands_at (get objects.objects name) → slots_at (graph_in objects) g h name ≡ kept_slots objects g places name
  kept_here name number h s young numbered placed stands =
      let pair : (h, s) ≡ (young.object.generation, young.object.step) = some_is (stands ∙ ap (option_map stands_at) young.there) in
      let same : h ≡ young.object.generation = ap (λ p. p.0) pair in
      let test : (nat_le young.object.generation g && is_some (new_place objects g places name)) ≡ true = and_from _ _ (le-leb young.object.generation g young.young) (ap is_some (number_place objects g places name number numbered) ∙ placed) in
      ap (λ x. option_map_or (λ (o : Object). slots_of_fields (graph_in objects) g name 0 o.pointers) (option_and_then (λ (o : Object). cond (nat_eq o.generation h) (Some o) None) x) []) young.there
      ∙ ap (λ b. option_map_or (λ (o : Object). slots_of_fields (graph_in objects) g name 0 o.pointers) (cond b (Some young.object) None) []) (eq-eqb young.object.generation h (sym same))
      ∙ sym (kept_at name young.object true young.there test)

  -- an older object is left out
  pub kept-older : (name : ℕ) → (IsYoung (graph_in objects) g name → ⊥) → kept_slots objects g places name ≡ []
  kept-older name not = go (get objects.objects name) refl
    where
      go : (x : Option Object) → get objects.objects name ≡ x → kept_slots objects g places name ≡ []
      go None is = kept-none name is
      go (Some o) is = kept_at name o false is (and_left _ _ (⊎_elim (λ low. absurd (not (record { object = o; there = is; young = leb-true o.generation g low }))) (λ no. no) (cases_Bool (nat_le o.generation g))))

  -- and so is one that has no new place
  pub kept-gone : (name number : ℕ) → IsNumbered objects g name number → is_some (slice_index_or places number None) ≡ false → kept_slots objects g places name ≡ []
  kept-gone name number numbered gone = go (get objects.objects name) refl
    where
      go : (x : Option Object) → get objects.objects name ≡ x → kept_slots objects g places name ≡ []
      go None is = kept-none name is
      go (Some o) is = kept_at name o false is (and_right _ _ (ap is_some (number_place objects g places name number numbered) ∙ gone))

  -- the large objects with a number below this one are done
  pub record AreDone (from : ℕ) (values : List SlotValue) : Type 0 where
    pub found : List Slot
    pub are : values ≡ map field_slot_of found
    pub only : (slot : Slot) → Among slot found → IsLargeSlot objects g places slot
    pub all : (slot : Slot) (number : ℕ) → IsLargeSlot objects g places slot → slot.holder ≡ large_word number → number < from → Among slot found

  pub none_done : AreDone 0 []
  none_done = record { found = []; are = refl; only = λ slot h. absurd h; all = λ slot number is at lt. absurd (omega (arith, lt)) }

  module _ (sound : AreObjects (heap_in objects)) where
    large_at_word : (number : ℕ) (o : Object) → get objects.objects (large_word number) ≡ Some o → IsTrue (is_large objects.config.block_words o)
    large_at_word number o is = ⊎_elim
        (λ large. large)
        (λ small. let place = (sound.places (large_word number) o is).small small in absurd (omega (arith, place.is, place.block_in_range, place.offset_in_range, sound.range.most_blocks)))
        (cases_Bool (is_large objects.config.block_words o))

    kept_only : (number : ℕ) (slot : Slot) → Among slot (kept_slots objects g places (large_word number)) → IsLargeSlot objects g places slot
    kept_only number slot h = go (get objects.objects (large_word number)) refl
      where
        at : (o : Object) → get objects.objects (large_word number) ≡ Some o → (b : Bool) → (nat_le o.generation g && is_some (new_place objects g places (large_word number))) ≡ b → IsLargeSlot objects g places slot
        at o is true test =
            let parts : (nat_le o.generation g ≡ true) × (is_some (new_place objects g places (large_word number)) ≡ true) = and_parts _ _ test in
            let s : IsSlotOf (graph_in objects) g (large_word number) 0 o.pointers slot = slots_from_list (graph_in objects) g (large_word number) 0 o.pointers slot (subst (Among slot) (kept_at (large_word number) o true is test) h) in
            let field : slot.field ≡ s.k = omega (arith, s.at_field) in
            record {
              holder = o;
              there = ap (get objects.objects) s.at_holder ∙ is;
              young = leb-true o.generation g parts.0;
              large = large_at_word number o is;
              kept = ap (λ n. is_some (new_place objects g places n)) s.at_holder ∙ parts.1;
              leads = ap (slice_get o.pointers) field ∙ s.leads;
              to_young = young_name (graph_in objects) g slot.target s.young;
            }
        at o is false test = absurd (subst (Among slot) (kept_at (large_word number) o false is test) h)

        go : (x : Option Object) → get objects.objects (large_word number) ≡ x → IsLargeSlot objects g places slot
        go None is = absurd (subst (Among slot) (kept-none (large_word number) is) h)
        go (Some o) is = at o is _ refl

    kept_all : (slot : Slot) → IsLargeSlot objects g places slot → Among slot (kept_slots objects g places slot.holder)
    kept_all slot is =
        subst (Among slot) (sym (kept_at slot.holder is.holder true is.there (and_from _ _ (le-leb is.holder.generation g is.young) is.kept)))
        (slots_to_list (graph_in objects) g slot.holder 0 slot.field is.holder.pointers slot refl (omega arith) is.leads (name_young (graph_in objects) g slot.target is.to_young))

    pub done_more : (from number : ℕ) (values next : List SlotValue) → IsNextLarge objects from number → next ≡ values ++ map field_slot_of (kept_slots objects g places (large_word number)) → AreDone from values → AreDone (number + 1) next
    done_more from number values next is pushed done = record {
      found = done.found ++ kept_slots objects g places (large_word number);
      are = pushed ∙ ap (λ vs. vs ++ map field_slot_of (kept_slots objects g places (large_word number))) done.are ∙ sym (map-append field_slot_of done.found (kept_slots objects g places (large_word number)));
      only = λ slot h. ⊎_elim (λ before. done.only slot before) (λ here. kept_only number slot here) (among_either done.found _ slot h);
      all = each;
    }
      where
        each : (slot : Slot) (n : ℕ) → IsLargeSlot objects g places slot → slot.holder ≡ large_word n → n < number + 1 → Among slot (done.found ++ kept_slots objects g places (large_word number))
        each slot n large at lt = ⊎_elim
            (λ before. among_left done.found _ slot (done.all slot n large at before))
            (λ after. ⊎_elim
            (λ same. among_right done.found _ slot (subst (λ m. Among slot (kept_slots objects g places m)) (at ∙ ap large_word same) (kept_all slot large)))
            (λ ne. absurd (some_not_none (sym large.there ∙ ap (get objects.objects) at ∙ is.lowest n after (omega (arith, lt, ne)))))
            (cases_eq n number))
            (cases_lt n from)

    pub done_all : (from : ℕ) (values : List SlotValue) → NoLargeFrom objects from → AreDone from values → (found : List Slot) × (values ≡ map field_slot_of found) × AreLargeSlots objects g places found
    done_all from values none done = (
      done.found,
      done.are,
      record {
        only = λ slot h. done.only slot (among_Contains done.found slot h);
        all = λ slot large. Contains-among done.found slot (each slot large);
      },
    )
      where
        each : (slot : Slot) → IsLargeSlot objects g places slot → Among slot done.found
        each slot large =
            let place = (sound.places slot.holder large.holder large.there).large large.large in
            ⊎_elim
            (λ before. done.all slot place.number large place.is before)
            (λ after. absurd (some_not_none (sym large.there ∙ ap (get objects.objects) place.is ∙ none place.number after)))
            (cases_lt place.number from)
