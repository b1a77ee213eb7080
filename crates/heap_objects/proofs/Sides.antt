-- Small objects stand below all large ones.
use Rattle.std.proofs.Common.{◌≡◌, ℕ, ◌+◌, ◌-◌, ◌<◌, ◌≤◌, List, [], ◌∷◌, ◌++◌, Option, Some, None, refl, sym, ap, subst, ◌∙◌, arith, ◌⊎◌, inl, inr, ⊎_elim}
use Rattle.std.proofs.lemmas.Bool.{cases_lt}
use Rattle.std.specs.Option.{option_map}
use Rattle.std.specs.Ordering.{nat_cmp}
use Rattle.std.specs.FinMap.{FinMap, find, get, entries, get-entries}
use Rattle.model.specs.Graph.{Object}
use Rattle.model.proofs.NatMap.{find_same, find_other, same_nat_map}
use Rattle.model.proofs.Options.{some_not_none}
use Rattle.model.proofs.Finds.{or_else}
use Rattle.model.proofs.Rising.{KeysRise, KeysBelow, find_below}
use Rattle.model.proofs.RisingKeys.{entries-rise}
use Rattle.layout.specs.Place.{small_word, large_word}
use Rattle.large_objects.specs.LargeValue.{LargeObject, LargeValue, large_at}
use Rattle.heap_objects.specs.WithLarge.{large_object, large_entries, with_large}
use Rattle.heap_objects.proofs.WithLarge.{FoundLarge, found_large, get-with_large, get-small, get-large, entries-with_large}
use Rattle.heap_objects.specs.Space.{SpaceValue, IsSpace}

below_all : {X : Type 0} (low high : ℕ) (es : List (ℕ × X)) → KeysRise low es → ((q : ℕ) (x : X) → find nat_cmp q es ≡ Some x → q < high) → KeysBelow high es
below_all low high [] rise each = tt
below_all {X} low high (e ∷ es) rise each = (each e.0 e.1 (find_same e.0 e.1 es), below_all (e.0 + 1) high es rise.1 later)
  where
    later : (q : ℕ) (x : X) → find nat_cmp q es ≡ Some x → q < high
    later q x is = ⊎_elim
        (λ low. absurd (some_not_none (sym is ∙ find_below q (e.0 + 1) es low rise.1)))
        (λ high. each q x (find_other q e.0 e.1 es (λ same. absurd (omega (arith, same, high))) ∙ is))
        (cases_lt q (e.0 + 1))

-- two maps of objects that agree below the large places and at each of them
pub same_sides : {X : Type 0} (m n : FinMap nat_cmp X) → ((q : ℕ) → q < large_word 0 → get m q ≡ get n q) → ((k : ℕ) → get m (large_word k) ≡ get n (large_word k)) → m ≡ n
same_sides m n small large = same_nat_map m n (λ q. ⊎_elim (λ lt. small q lt) (λ ge. at q ge) (cases_lt q (large_word 0)))
  where
    at : (q : ℕ) → large_word 0 ≤ q → get m q ≡ get n q
    at q ge =
        let is : large_word (q - large_word 0) ≡ q = omega (arith, ge) in
        subst (λ w. get m w ≡ get n w) is (large (q - large_word 0))

module _ (space : SpaceValue) (sound : IsSpace space) where
  -- each small object stands below the places of large ones
  pub place_below : (name : ℕ) (o : Object) → get space.objects name ≡ Some o → name < large_word 0
  place_below name o is =
      let at = sound.places name o is in
      omega (arith, at.is, at.block_in_range, at.offset_in_range, sound.in_range.most_blocks)

  pub none_large : (n : ℕ) → get space.objects (large_word n) ≡ None
  none_large n = go (get space.objects (large_word n)) refl
    where
      go : (o : Option Object) → get space.objects (large_word n) ≡ o → o ≡ None
      go None is = refl
      go (Some o) is = absurd (omega (arith, place_below (large_word n) o is))

  pub entries_below : KeysBelow (large_word 0) (entries space.objects)
  entries_below = below_all 0 (large_word 0) (entries space.objects) (entries-rise space.objects) (λ q x is. place_below q x (get-entries space.objects q ∙ is))

  pub entries_both : (slots : List (Option LargeObject)) → entries (with_large space.objects slots) ≡ entries space.objects ++ large_entries 0 slots
  entries_both slots = entries-with_large space.objects slots (entries-rise space.objects) entries_below

  pub at_large : (large : LargeValue) (n : ℕ) → get (with_large space.objects large.slots) (large_word n) ≡ option_map large_object (large_at large n)
  at_large large n = get-large space.objects large.slots n (none_large n)

  -- an object is a small one or a large one
  pub each_side : (slots : List (Option LargeObject)) (name : ℕ) (o : Object) → get (with_large space.objects slots) name ≡ Some o → (get space.objects name ≡ Some o) ⊎ FoundLarge 0 name slots o
  each_side slots name o is = go (get space.objects name) refl
    where
      go : (x : Option Object) → get space.objects name ≡ x → (get space.objects name ≡ Some o) ⊎ FoundLarge 0 name slots o
      go None none = inr (found_large 0 name slots o (sym (get-with_large space.objects slots name ∙ ap (λ y. or_else y (find nat_cmp name (large_entries 0 slots))) none) ∙ is))
      go (Some x) some = inl (sym (get-small space.objects slots name (place_below name x some)) ∙ is)

  -- a small object is one of both
  pub small_there : (slots : List (Option LargeObject)) (name : ℕ) (o : Object) → get space.objects name ≡ Some o → get (with_large space.objects slots) name ≡ Some o
  small_there slots name o is = get-small space.objects slots name (place_below name o is) ∙ is

-- at a place in a block stands the small object
pub at_small : (m : FinMap nat_cmp Object) (slots : List (Option LargeObject)) (block offset : ℕ) → block < 65536 → offset < 65536 → get (with_large m slots) (small_word block offset) ≡ get m (small_word block offset)
at_small m slots block offset few lt = get-small m slots (small_word block offset) (omega (arith, few, lt))
