-- What is read of one object, small or large.
use Rattle.std.proofs.Common.{◌≡◌, ℕ, ◌<◌, ◌≤◌, Option, Some, None, refl, sym, ap, subst, ◌∙◌, arith}
use Rattle.std.proofs.lemmas.Bool.{true≢false}
use Rattle.std.specs.Prelude.{IsSome, IsSomeAnd, MatchOption, is_some, slice_index}
use Rattle.std.specs.Option.{option_map}
use Rattle.model.specs.Graph.{Object, object_at}
use Rattle.model.specs.Live.{IsYoung}
use Rattle.model.proofs.Options.{some_is, some_not_none}
use Rattle.layout.specs.Place.{large_word}
use Rattle.layout.specs.declared.place.LargeNumber.{LargeNumber}
use Rattle.layout.specs.ObjectRef.{raw_of}
use Rattle.layout.specs.declared.object.ObjectRef.{ObjectRef}
use Rattle.steps.specs.StepPairs.{stands_at}
use Rattle.large_objects.specs.LargeValue.{LargeObject, LargeValue, large_at, NoneFrom, IsFirstFrom}
use Rattle.steps.specs.CollectionValue.{IsNumbering}
use Rattle.steps.specs.Numbering.{NumberingValue}
use Rattle.steps.specs.Words.{IsShownAs}
use Rattle.heap_objects.specs.WithLarge.{large_object}
use Rattle.heap_objects.proofs.WithLarge.{get-small}
use Rattle.heap_objects.specs.Space.{SpaceValue, graph_in as small_graph}
use Rattle.heap_objects.specs.HeapSpaceCollecting.{IsNumbered as IsSmallNumbered}
use Rattle.heap_objects.specs.Objects.{objects_of, graph_in}
use Rattle.heap_objects.specs.Inside.{AreApart}
use Rattle.heap_objects.specs.Collecting.{IsNumbered, NoLargeFrom, IsNextLarge}
use Rattle.heap_objects.proofs.Sides.{at_large}
use Rattle.heap_objects.proofs.ObjectReads.{shown_large, shown_at, stands_large}
use Rattle.heap_objects.proofs.Numbers.{numbered_small, numbered_large, large_of_young, young_of_large}

-- the generation and the step of a large object
abbrev label : LargeObject → ℕ × ℕ
label o = (o.generation, o.step)

module _ (space : SpaceValue) (large : LargeValue) (are : AreApart space large) where
  -- what a look at a large object says
  shown_there : (n : ℕ) (shown : Option ObjectRef) → option_map raw_of shown ≡ option_map (λ o. o.raw) (large_at large n) → MatchOption shown (object_at (graph_in (objects_of space large)) (large_word n) ≡ None) (λ object. IsSomeAnd (object_at (graph_in (objects_of space large)) (large_word n)) (λ o. IsShownAs o (raw_of object)))
  shown_there n shown is = shown_at shown (object_at (graph_in (objects_of space large)) (large_word n)) (option_map large_object (large_at large n)) (at_large space are.small large n) (shown_large shown (large_at large n) is)

  pub never_none : (n : ℕ) (shown : Option ObjectRef) → shown ≡ None → option_map raw_of shown ≡ option_map (λ o. o.raw) (large_at large n) → IsSome (object_at (graph_in (objects_of space large)) (large_word n)) → ⊥
  never_none n None none is there = true≢false (sym there ∙ ap is_some (shown_there n None is))
  never_none n (Some object) none is there = some_not_none none

  pub shown_some : (n : ℕ) (object : ObjectRef) (shown : Option ObjectRef) → shown ≡ Some object → option_map raw_of shown ≡ option_map (λ o. o.raw) (large_at large n) → IsSomeAnd (object_at (graph_in (objects_of space large)) (large_word n)) (λ o. IsShownAs o (raw_of object))
  shown_some n object shown some is = shown_there n (Some object) (sym (ap (option_map raw_of) some) ∙ is)

  pub shown_is : (n : ℕ) (object : ObjectRef) (shown : Option ObjectRef) → shown ≡ Some object → option_map raw_of shown ≡ option_map (λ o. o.raw) (large_at large n) → (o : Object) → object_at (graph_in (objects_of space large)) (large_word n) ≡ Some o → IsShownAs o (raw_of object)
  shown_is n object shown some is o there = subst (λ x. IsSomeAnd x (λ y. IsShownAs y (raw_of object))) there (shown_some n object shown some is)

  pub step_large : (n : ℕ) (found : Option (ℕ × ℕ)) → found ≡ option_map label (large_at large n) → found ≡ option_map stands_at (object_at (graph_in (objects_of space large)) (large_word n))
  step_large n found is = is ∙ stands_large (large_at large n) ∙ ap (option_map stands_at) (sym (at_large space are.small large n))

  module _ (g n generation step : ℕ) (is : option_map label (large_at large n) ≡ Some (generation, step)) where
    labelled : (o : LargeObject) → large_at large n ≡ Some o → o.generation ≡ generation
    labelled o at = ap (λ p. p.0) (some_is (sym (ap (option_map label) at) ∙ is))

    pub not_young : g < generation → IsYoung (graph_in (objects_of space large)) g (large_word n) → ⊥
    not_young older young =
        let at = large_of_young space large are g n young in
        absurd (omega (arith, labelled at.object at.there, at.young, older))

    pub young_here : generation ≤ g → IsYoung (graph_in (objects_of space large)) g (large_word n)
    young_here le = go (large_at large n) refl
      where
        go : (slot : Option LargeObject) → large_at large n ≡ slot → IsYoung (graph_in (objects_of space large)) g (large_word n)
        go None at = absurd (some_not_none (sym is ∙ ap (option_map label) at))
        go (Some o) at = young_of_large space large are g n o at (omega (arith, labelled o at, le))

    pub numbered_here : (numbering : NumberingValue) → IsNumbering (graph_in (objects_of space large)) g numbering → generation ≤ g → IsNumbered (objects_of space large) g (large_word n) (slice_index numbering.large n)
    numbered_here numbering numbers le =
        let young = young_here le in
        let at = large_of_young space large are g n young in
        numbered_large space large are g n at.object (slice_index numbering.large n) at.there at.young (numbers.large n (numbers.covers_large n young))

  -- the object at a place of the blocks
  module _ (g q : ℕ) (low : q < large_word 0) where
    pub young_at : IsYoung (small_graph space) g q → IsYoung (graph_in (objects_of space large)) g q
    young_at young = record { object = young.object; there = get-small space.objects large.slots q low ∙ young.there; young = young.young }

    young_back : IsYoung (graph_in (objects_of space large)) g q → IsYoung (small_graph space) g q
    young_back young = record { object = young.object; there = sym (get-small space.objects large.slots q low) ∙ young.there; young = young.young }

    pub number_found : (found : Option ℕ) → MatchOption found (IsYoung (small_graph space) g q → ⊥) (λ n. IsYoung (small_graph space) g q × IsSmallNumbered space g q n) → MatchOption found (IsYoung (graph_in (objects_of space large)) g q → ⊥) (λ n. IsYoung (graph_in (objects_of space large)) g q × IsNumbered (objects_of space large) g q n)
    number_found None h = λ young. h (young_back young)
    number_found (Some n) h = (young_at h.0, numbered_small space large are g q n h.1)

  -- the first large object from a number on
  pub next_is : (from : ℕ) (found : Option LargeNumber) → MatchOption found (NoneFrom large from) (λ of. IsFirstFrom large from of.number) → MatchOption found (NoLargeFrom (objects_of space large) from) (λ of. IsNextLarge (objects_of space large) from of.number)
  next_is from None none = λ n le. at_large space are.small large n ∙ ap (option_map large_object) (none n le)
  next_is from (Some of) first = record {
    from_on = first.from_on;
    in_range = of.in_range;
    there = ap is_some (at_large space are.small large of.number) ∙ some_object (large_at large of.number) first.in_use;
    lowest = λ n low lt. at_large space are.small large n ∙ ap (option_map large_object) (first.lowest n low lt);
  }
    where
      some_object : (slot : Option LargeObject) → IsSome slot → IsSome (option_map large_object slot)
      some_object None some = absurd (true≢false (sym some))
      some_object (Some o) some = refl
