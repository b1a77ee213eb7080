-- The slots of a generation are those of the members of its set.
use Rattle.std.proofs.Common.{◌≡◌, ℕ, ◌+◌, ◌<◌, Bool, true, false, cond, ◌||◌, List, [], ◌∷◌, ◌++◌, map, Option, Some, None, refl, sym, ap, ◌∙◌, arith, inl, inr}
use Rattle.std.proofs.lemmas.Bool.{true≢false}
use Rattle.std.proofs.lemmas.Bool.Decides.{nat_tests}
use Rattle.std.proofs.lemmas.List.Kept.{AllPairs-from_increasing}
use Rattle.std.specs.Prelude.{flat_map, filter, nat_eq, nat_le, nat_lt, option_and_then}
use Rattle.std.specs.Option.{option_map_or}
use Rattle.std.specs.List.{list_any}
use Rattle.std.specs.List.Sorted.{IsStrictlyIncreasing}
use Rattle.std.specs.FinMap.{entries, keys, entries_sorted, get-entries}
use Rattle.model.specs.Graph.{Graph, Object, object_at}
use Rattle.model.specs.Census.{points_to, points_younger}
use Rattle.model.specs.OldSlots.{Slot, slots_of_fields, slots_of_generation}
use Rattle.model.specs.Reached.{has}
use Rattle.model.proofs.Among.{Among}
use Rattle.model.proofs.KeyLists.{has_key}
use Rattle.model.proofs.OldSlotsExact.{entry_found}
use Rattle.model.proofs.RisingKeys.{keys-rise, entries-rise}
use Rattle.steps.specs.Remembered.{object_of_generation, is_holder}
use Rattle.heap_objects.specs.HeapGraph.{slots_at}
use Rattle.heap_objects.proofs.HeldObjects.{held}
use Rattle.heap.proofs.SameSupport.{same_support}

neither : (a b : Bool) → (a || b) ≡ false → (a ≡ false) × (b ≡ false)
neither true b e = absurd (true≢false e)
neither false b e = (refl, e)

module _ (graph : Graph) (g h : ℕ) where
  -- the slots of one entry are those at its name
  entry_slots : (e : ℕ × Object) (b : Bool) → nat_eq e.1.generation h ≡ b → object_at graph e.0 ≡ Some e.1 → cond b (slots_of_fields graph g e.0 0 e.1.pointers) [] ≡ slots_at graph g h e.0
  entry_slots e b is there =
      sym (ap (λ found. option_map_or (λ o. slots_of_fields graph g e.0 0 o.pointers) (option_and_then (λ o. cond (nat_eq o.generation h) (Some o) None) found) []) there
      ∙ ap (λ t. option_map_or (λ o. slots_of_fields graph g e.0 0 o.pointers) (cond t (Some e.1) None) []) is ∙ go b)
    where
      go : (t : Bool) → option_map_or (λ o. slots_of_fields graph g e.0 0 o.pointers) (cond t (Some e.1) None) [] ≡ cond t (slots_of_fields graph g e.0 0 e.1.pointers) []
      go true = refl
      go false = refl

  by_name : (es : List (ℕ × Object)) → ((e : ℕ × Object) → Among e es → object_at graph e.0 ≡ Some e.1)
      → flat_map (λ e. slots_of_fields graph g e.0 0 e.1.pointers) (filter (λ e. nat_eq e.1.generation h) es) ≡ flat_map (slots_at graph g h) (map (λ e. e.0) es)
  by_name [] there = refl
  by_name (e ∷ es) there = split (by_name es (λ x among. there x (inr among))) (nat_eq e.1.generation h) refl
    where
      split : flat_map (λ x. slots_of_fields graph g x.0 0 x.1.pointers) (filter (λ x. nat_eq x.1.generation h) es) ≡ flat_map (slots_at graph g h) (map (λ x. x.0) es) → (b : Bool) → nat_eq e.1.generation h ≡ b → flat_map (λ x. slots_of_fields graph g x.0 0 x.1.pointers) (cond b (e ∷ filter (λ x. nat_eq x.1.generation h) es) (filter (λ x. nat_eq x.1.generation h) es)) ≡ slots_at graph g h e.0 ++ flat_map (slots_at graph g h) (map (λ x. x.0) es)
      split rest true is = ap (λ ss. ss ++ flat_map (λ x. slots_of_fields graph g x.0 0 x.1.pointers) (filter (λ x. nat_eq x.1.generation h) es)) (entry_slots e true is (there e (inl refl))) ∙ ap (λ ss. slots_at graph g h e.0 ++ ss) rest
      split rest false is = rest ∙ ap (λ ss. ss ++ flat_map (slots_at graph g h) (map (λ x. x.0) es)) (entry_slots e false is (there e (inl refl)))

  generation_slots : slots_of_generation graph g h ≡ flat_map (slots_at graph g h) (keys graph.objects)
  generation_slots = by_name (entries graph.objects) (λ e among. get-entries graph.objects e.0 ∙ entry_found (entries graph.objects) e (entries_sorted graph.objects) among)

  not_young : g < h → (o : Option Object) → option_map_or (λ x. nat_lt x.generation h) o false ≡ false → option_map_or (λ x. nat_le x.generation g) o false ≡ false
  not_young above None e = refl
  not_young above (Some x) e = grind (arith, nat_tests, e, above)

  -- an object without a pointer to a younger one has no slot
  no_slots : g < h → (name i : ℕ) (pointers : List (Option ℕ)) → list_any (points_to (λ target. nat_lt target.generation h) (object_at graph)) pointers ≡ false → slots_of_fields graph g name i pointers ≡ []
  no_slots above name i [] none = refl
  no_slots above name i (None ∷ pointers) none = no_slots above name (i + 1) pointers none
  no_slots above name i (Some target ∷ pointers) none =
      let parts = neither (option_map_or (λ o. nat_lt o.generation h) (object_at graph target) false) (list_any (points_to (λ t. nat_lt t.generation h) (object_at graph)) pointers) none in
      ap (λ ss. ss ++ slots_of_fields graph g name (i + 1) pointers) (ap (λ b. map (λ t. let s : Slot = record { holder = name; field = i; target = t } in s) (cond b (target ∷ []) [])) (not_young above (object_at graph target) parts.0))
      ∙ no_slots above name (i + 1) pointers parts.1

  no_holder : g < h → (name : ℕ) → is_holder graph h name ≡ false → slots_at graph g h name ≡ []
  no_holder above name none = go (object_of_generation graph h name) refl none
    where
      go : (found : Option Object) → object_of_generation graph h name ≡ found → option_map_or (points_younger (object_at graph)) found false ≡ false → option_map_or (λ o. slots_of_fields graph g name 0 o.pointers) found [] ≡ []
      go None is e = refl
      go (Some o) is e =
          let generation = (held graph h name o is).1 in
          no_slots above name 0 o.pointers (ap (λ n. list_any (points_to (λ target. nat_lt target.generation n) (object_at graph)) o.pointers) (sym generation) ∙ e)

  -- where there is no object there is no slot
  no_key : (name : ℕ) → has (keys graph.objects) name ≡ false → slots_at graph g h name ≡ []
  no_key name none = go (object_at graph name) refl
    where
      go : (found : Option Object) → object_at graph name ≡ found → option_map_or (λ o. slots_of_fields graph g name 0 o.pointers) (option_and_then (λ o. cond (nat_eq o.generation h) (Some o) None) found) [] ≡ []
      go None is = refl
      go (Some o) is = absurd (true≢false (sym (has_key graph.objects name o is) ∙ none))

  pub members_slots : g < h → (names : List ℕ) → IsStrictlyIncreasing names → ((name : ℕ) → is_holder graph h name ≡ true → has names name ≡ true) → flat_map (slots_at graph g h) names ≡ slots_of_generation graph g h
  members_slots above names rising covers =
      same_support (slots_at graph g h) names (keys graph.objects) (AllPairs-from_increasing names rising) (keys-rise 0 (entries graph.objects) (entries-rise graph.objects))
      (λ n none. no_holder above n (no n (is_holder graph h n) refl none)) no_key
      ∙ sym generation_slots
    where
      no : (n : ℕ) (b : Bool) → is_holder graph h n ≡ b → has names n ≡ false → b ≡ false
      no n true is none = absurd (true≢false (sym (covers n is) ∙ none))
      no n false is none = refl
