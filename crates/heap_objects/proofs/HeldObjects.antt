-- The object at a place where it is of a generation.
use Rattle.std.proofs.Common.{◌≡◌, ◌≢◌, ℕ, ◌<◌, ◌≤◌, Bool, true, false, cond, List, [], length, map, Option, Some, None, refl, sym, ap, subst, ◌∙◌, arith}
use Rattle.std.proofs.lemmas.Bool.Decides.{nat_tests}
use Rattle.std.specs.Prelude.{IsSomeAnd, nat_eq, nat_lt, slice_get, option_and_then, All}
use Rattle.std.specs.Option.{option_map, option_map_or}
use Rattle.std.specs.List.{list_any}
use Rattle.std.specs.FinMap.{get}
use Rattle.model.specs.Graph.{Graph, Object, object_at}
use Rattle.model.specs.Census.{points_to, points_younger}
use Rattle.model.specs.OldSlots.{slots_of_fields}
use Rattle.model.proofs.Options.{some_is, some_not_none}
use Rattle.layout.specs.Object.{Raw}
use Rattle.layout.specs.Place.{small_word, large_word}
use Rattle.block_pool.specs.BlockValue.{BlockValue, offset_of}
use Rattle.steps.specs.BlockObjects.{object_of}
use Rattle.steps.specs.Remembered.{object_of_generation, is_holder}
use Rattle.steps.specs.Words.{IsShownAs, target_of_word}
use Rattle.nursery.specs.Table.{slot_at, objects_map}
use Rattle.large_objects.specs.LargeValue.{LargeObject, LargeValue, large_at}
use Rattle.heap_objects.specs.WithLarge.{large_object}
use Rattle.heap_objects.specs.HeapGraph.{IsHeapGraph, IsClosedWord, slots_at}
use Rattle.heap_objects.proofs.GraphObjects.{graph-fits, graph-small, graph-large, closed_object, closed_large}
use Rattle.nursery.proofs.Located.{object_found, object_none}

abbrev where_of : ℕ → Object → Option Object
where_of h o = cond (nat_eq o.generation h) (Some o) None

module _ (graph : Graph) (table : List (Option BlockValue)) (large : LargeValue) (short : length table ≤ 65535) (shows : IsHeapGraph graph table large) (h : ℕ) where
  at_place : (number offset : ℕ) → number < 65535 → offset < 512 → object_of_generation graph h (small_word number offset) ≡ option_and_then (where_of h) (get (objects_map table) (small_word number offset))
  at_place number offset few lt = ap (option_and_then (where_of h)) (graph-small graph table large short shows (small_word number offset) (omega (arith, few, lt)))

  pub none_there : (number offset : ℕ) → number < 65535 → offset < 512 → ((block : BlockValue) → slot_at table number ≡ Some block → (k : ℕ) → k < length block.objects → offset_of block.objects k ≢ offset) → object_of_generation graph h (small_word number offset) ≡ None
  none_there number offset few lt none = at_place number offset few lt ∙ ap (option_and_then (where_of h)) (object_none table (graph-fits graph table large short shows) short number offset lt none)

  module _ (number offset k : ℕ) (raw : Raw) (block : BlockValue) (few : number < 65535) (lt : offset < 512) (there : slot_at table number ≡ Some block) (in_block : k < length block.objects) (at : offset_of block.objects k ≡ offset) (is : slice_get block.objects k ≡ Some raw) where
    found : object_of_generation graph h (small_word number offset) ≡ where_of h (object_of block.generation block.step raw)
    found =
        at_place number offset few lt
        ∙ ap (option_and_then (where_of h)) (object_found table (graph-fits graph table large short shows) short number offset k raw lt (record { block = block; there = there; in_block = in_block; at = at; is = is }))

    pub other_generation : nat_eq block.generation h ≡ false → object_of_generation graph h (small_word number offset) ≡ None
    other_generation other = found ∙ ap (λ b. cond b (Some (object_of block.generation block.step raw)) None) other

    pub this_generation : nat_eq block.generation h ≡ true → IsSomeAnd (object_of_generation graph h (small_word number offset)) (λ o. IsShownAs o raw)
    this_generation same =
        let here = found ∙ ap (λ b. cond b (Some (object_of block.generation block.step raw)) None) same in
        subst (λ o. IsSomeAnd o (λ x. IsShownAs x raw)) (sym here) (record { pointers = refl; plain = refl })

    pub words_closed : All (IsClosedWord graph) raw.pointers
    words_closed = closed_object graph table large short shows number k block raw there is

  pub no_large : (number : ℕ) → large_at large number ≡ None → object_of_generation graph h (large_word number) ≡ None
  no_large number none = ap (option_and_then (where_of h)) (graph-large graph table large short shows number ∙ ap (option_map large_object) none)

  module _ (number : ℕ) (object : LargeObject) (there : large_at large number ≡ Some object) where
    found_large : object_of_generation graph h (large_word number) ≡ where_of h (large_object object)
    found_large = ap (option_and_then (where_of h)) (graph-large graph table large short shows number ∙ ap (option_map large_object) there)

    pub large_of_other : nat_eq object.generation h ≡ false → object_of_generation graph h (large_word number) ≡ None
    large_of_other other = found_large ∙ ap (λ b. cond b (Some (large_object object)) None) other

    pub large_of_this : nat_eq object.generation h ≡ true → IsSomeAnd (object_of_generation graph h (large_word number)) (λ o. IsShownAs o object.raw)
    large_of_this same =
        let here = found_large ∙ ap (λ b. cond b (Some (large_object object)) None) same in
        subst (λ o. IsSomeAnd o (λ x. IsShownAs x object.raw)) (sym here) (record { pointers = refl; plain = refl })

    pub large_closed : All (IsClosedWord graph) object.raw.pointers
    large_closed = closed_large graph table large short shows number object there

-- the object was found in the graph, and is of the generation
pub held : (graph : Graph) (h name : ℕ) (o : Object) → object_of_generation graph h name ≡ Some o → (object_at graph name ≡ Some o) × (o.generation ≡ h)
held graph h name o is = go (object_at graph name) refl is
  where
    test : (x : Object) (b : Bool) → nat_eq x.generation h ≡ b → object_at graph name ≡ Some x → cond b (Some x) None ≡ Some o → (object_at graph name ≡ Some o) × (o.generation ≡ h)
    test x true same there e =
        let here : x ≡ o = some_is e in
        (there ∙ ap Some here, ap (λ y. y.generation) (sym here) ∙ grind (arith, nat_tests, same))
    test x false same there e = absurd (some_not_none (sym e))

    go : (found : Option Object) → object_at graph name ≡ found → option_and_then (where_of h) found ≡ Some o → (object_at graph name ≡ Some o) × (o.generation ≡ h)
    go None there e = absurd (some_not_none (sym e))
    go (Some x) there e = test x (nat_eq x.generation h) refl there e

-- the slots of an object whose words these are
pub slots_shown : (graph : Graph) (g h name : ℕ) (raw : Raw) → IsSomeAnd (object_of_generation graph h name) (λ o. IsShownAs o raw) → slots_at graph g h name ≡ slots_of_fields graph g name 0 (map target_of_word raw.pointers)
slots_shown graph g h name raw shown = go (object_of_generation graph h name) shown
  where
    go : (found : Option Object) → IsSomeAnd found (λ o. IsShownAs o raw) → option_map_or (λ o. slots_of_fields graph g name 0 o.pointers) found [] ≡ slots_of_fields graph g name 0 (map target_of_word raw.pointers)
    go None h = absurd h
    go (Some o) h = ap (slots_of_fields graph g name 0) (sym h.pointers)

pub slots_none : (graph : Graph) (g h name : ℕ) → object_of_generation graph h name ≡ None → slots_at graph g h name ≡ []
slots_none graph g h name none = ap (λ found. option_map_or (λ o. slots_of_fields graph g name 0 o.pointers) found []) none

-- whether an object whose words these are points to a younger one
pub holder_shown : (graph : Graph) (h name : ℕ) (raw : Raw) → IsSomeAnd (object_of_generation graph h name) (λ o. IsShownAs o raw) → list_any (points_to (λ target. nat_lt target.generation h) (object_at graph)) (map target_of_word raw.pointers) ≡ is_holder graph h name
holder_shown graph h name raw shown = go (object_of_generation graph h name) refl shown
  where
    go : (found : Option Object) → object_of_generation graph h name ≡ found → IsSomeAnd found (λ o. IsShownAs o raw) → list_any (points_to (λ target. nat_lt target.generation h) (object_at graph)) (map target_of_word raw.pointers) ≡ option_map_or (points_younger (object_at graph)) found false
    go None there s = absurd s
    go (Some o) there s =
        let generation = (held graph h name o there).1 in
        ap (list_any (points_to (λ target. nat_lt target.generation h) (object_at graph))) s.pointers
        ∙ ap (λ n. list_any (points_to (λ target. nat_lt target.generation n) (object_at graph)) o.pointers) (sym generation)

pub holder_none : (graph : Graph) (h name : ℕ) → object_of_generation graph h name ≡ None → false ≡ is_holder graph h name
holder_none graph h name none = sym (ap (λ found. option_map_or (points_younger (object_at graph)) found false) none)
