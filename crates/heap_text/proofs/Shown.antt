-- The words of an object that the heap shows.
use Rattle.std.proofs.Common.{◌≡◌, ℕ, ◌<◌, Bool, true, false, cond, [], length, map, get_or, Option, Some, None, refl, sym, subst, ap, ◌∙◌, arith}
use Rattle.std.proofs.lemmas.Bool.Decides.{nat_tests}
use Rattle.std.proofs.lemmas.List.{length-map, get_or-map}
use Rattle.std.proofs.lemmas.Option.{slice_get-get_or}
use Rattle.std.specs.Prelude.{nat_lt, flat_map, IsSome, is_some, IsSomeAnd, MatchOption, All, slice_get, option_and_then}
use Rattle.std.specs.Option.{option_map_or}
use Rattle.model.specs.Graph.{Graph, Object, object_at, field_at, IsClosed}
use Rattle.model.specs.Store.{some_of, targets}
use Rattle.model.specs.Text.{targets_at}
use Rattle.layout.specs.declared.object.ObjectRef.{ObjectRef}
use Rattle.layout.specs.Object.{Raw}
use Rattle.layout.specs.ObjectRef.{raw_of}
use Rattle.heap.specs.NamesArePlaces.{NamesArePlaces}
use Rattle.heap.specs.Words.{IsShownAs, target_of_word}
use Rattle.heap_text.specs.Numbering.{LeadsInto, IsPointerWord}

-- the object of that name has these words
pub record Shows (graph : Graph) (name : ℕ) (raw : Raw) : Type 0 where
  pub object : Object
  pub there : object_at graph name ≡ Some object
  pub shown : IsShownAs object raw

pub shows : (graph : Graph) (name : ℕ) (result : Option ObjectRef) (r : ObjectRef) → MatchOption result (object_at graph name ≡ None) (λ object. IsSomeAnd (object_at graph name) (λ o. IsShownAs o (raw_of object))) → result ≡ Some r → Shows graph name (raw_of r)
shows graph name result r match is =
    go (object_at graph name) refl (subst (λ res. MatchOption res (object_at graph name ≡ None) (λ object. IsSomeAnd (object_at graph name) (λ o. IsShownAs o (raw_of object)))) is match)
  where
    go : (o : Option Object) → object_at graph name ≡ o → IsSomeAnd o (λ x. IsShownAs x (raw_of r)) → Shows graph name (raw_of r)
    go None e h = absurd h
    go (Some o) e h = record { object = o; there = e; shown = h }

-- where there is an object one is shown
pub some_shown : {R X : Type 0} (result : Option R) (o : Option X) (P : R → Type 0) → MatchOption result (o ≡ None) P → IsSome o → IsSome result
some_shown None o P none some = let h : is_some o ≡ false = ap is_some none in absurd (let e : true ≡ false = sym some ∙ h in cc)
some_shown (Some r) o P match some = refl

module _ (graph : Graph) (name : ℕ) (raw : Raw) (s : Shows graph name raw) where
  pub shown_targets : targets_at (object_at graph) name ≡ flat_map some_of (map target_of_word raw.pointers)
  shown_targets = ap (λ o. option_map_or targets o []) s.there ∙ ap (flat_map some_of) (sym s.shown.pointers)

  -- its pointers lead to objects
  pub shown_lead : IsClosed graph → All (λ word. LeadsInto graph (target_of_word word)) raw.pointers
  shown_lead closed = λ k d lt. go k (target_of_word (get_or raw.pointers k d)) (field k d lt)
    where
      field : (k d : ℕ) → k < length raw.pointers → field_at graph name k ≡ Some (target_of_word (get_or raw.pointers k d))
      field k d lt =
          ap (λ o. option_and_then (λ object. slice_get object.pointers k) o) s.there
          ∙ ap (λ ps. slice_get ps k) (sym s.shown.pointers)
          ∙ slice_get-get_or (map target_of_word raw.pointers) k (target_of_word d) (omega (arith, length-map raw.pointers target_of_word))
          ∙ ap Some (get_or-map target_of_word raw.pointers k d (target_of_word d) lt)

      go : (k : ℕ) (t : Option ℕ) → field_at graph name k ≡ Some t → LeadsInto graph t
      go k None e = tt
      go k (Some t) e = let o = closed.fields name k t e in ap is_some o.1

-- a pointer to an object is a place's word
pub is_pointer_word : (graph : Graph) (word : ℕ) → NamesArePlaces graph → LeadsInto graph (target_of_word word) → IsPointerWord word
is_pointer_word graph word places leads = go (nat_lt 0 word) refl leads
  where
    place_of : (o : Option Object) → object_at graph word ≡ o → is_some o ≡ true → IsPointerWord word
    place_of None e h = absurd (let f : true ≡ false = sym h in cc)
    place_of (Some o) e h = let p = places word o e in (Some p.0, p.1)

    go : (b : Bool) → nat_lt 0 word ≡ b → LeadsInto graph (cond b (Some word) None) → IsPointerWord word
    go true e h = place_of (object_at graph word) refl h
    go false e h = (None, grind (arith, nat_tests, e))

pub leads_there : (graph : Graph) (t : Option ℕ) (name : ℕ) → LeadsInto graph t → Some name ≡ t → IsSome (object_at graph name)
leads_there graph t name leads is = subst (LeadsInto graph) (sym is) leads
