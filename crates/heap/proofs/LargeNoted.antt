-- Large objects that are noted where a collection takes them.
use Rattle.std.proofs.Common.{◌≡◌, ℕ, true, false, List, get_or, Option, Some, None, sym, ap, subst, ◌∙◌}
use Rattle.std.proofs.lemmas.Bool.{true≢false}
use Rattle.std.specs.Prelude.{is_some, slice_index_or, IsTrue}
use Rattle.std.specs.List.{list_any}
use Rattle.std.specs.FinMap.{get}
use Rattle.model.specs.Graph.{Object}
use Rattle.model.specs.Destination.{dest}
use Rattle.model.specs.Live.{IsYoung}
use Rattle.model.specs.Reached.{has}
use Rattle.model.proofs.Options.{some_not_none}
use Rattle.model.proofs.RisingKeys.{same_index, keys-filter_rise}
use Rattle.layout.specs.declared.place.Place.{Place}
use Rattle.layout.specs.Place.{large_word}
use Rattle.steps.specs.CollectionValue.{young_names}
use Rattle.heap_objects.specs.Objects.{ObjectsValue, graph_in}
use Rattle.heap_objects.specs.Collecting.{IsNumbered, at_step}
use Rattle.remembered_set.specs.Sets.{members_of}
use Rattle.heap.specs.Growth.{AreGrown}
use Rattle.heap.specs.Noted.{IsKeptLarge, IsLargeNoted}
use Rattle.heap.proofs.NotedCopies.{noted_still}

module _ (objects : ObjectsValue) (g : ℕ) (places : List (Option Place)) where
  pub large_still : (youngest : ℕ) (a b : List (List ℕ)) (number : ℕ) → AreGrown a b → IsLargeNoted youngest a objects g places number → IsLargeNoted youngest b objects g places number
  large_still youngest a b number grown noted = λ o kept. noted_still (IsTrue (list_any is_some o.pointers)) youngest a b grown (large_word number, at_step o (dest objects.config.shape (o.generation, o.step))) (noted o kept)

  module _ (number : ℕ) where
    -- there is none
    pub kept_none : get objects.objects (large_word number) ≡ None → (o : Object) → IsKeptLarge objects g places number o → ⊥
    kept_none none o kept = some_not_none (sym kept.there ∙ none)

    -- one that isn't collected
    pub kept_older : (IsYoung (graph_in objects) g (large_word number) → ⊥) → (o : Object) → IsKeptLarge objects g places number o → ⊥
    kept_older not o kept = not (record { object = o; there = kept.there; young = kept.young })

    -- one that is gone
    pub kept_gone : (m : ℕ) (place : Option Place) → IsNumbered objects g (large_word number) m → place ≡ slice_index_or places m None → is_some place ≡ false → (o : Object) → IsKeptLarge objects g places number o → ⊥
    kept_gone m place at is none o kept =
        let n = kept.place.0 in
        let same : n ≡ m = same_index (young_names (graph_in objects) g) n m (keys-filter_rise objects.objects _) kept.place.1.in_range at.in_range (kept.place.1.is ∙ sym at.is) in
        let here : get_or places n None ≡ place = ap (λ k. get_or places k None) same ∙ sym is in
        true≢false (sym kept.place.2 ∙ ap is_some here ∙ none)

    module _ (youngest : ℕ) (sets : List (List ℕ)) where
      -- one that isn't kept
      pub noted_not : ((o : Object) → IsKeptLarge objects g places number o → ⊥) → IsLargeNoted youngest sets objects g places number
      noted_not not = λ o kept. absurd (not o kept)

      -- one that is a member of the set of the generation that it goes to
      pub noted_going : (to : ℕ) → ((o : Object) → get objects.objects (large_word number) ≡ Some o → to ≡ (dest objects.config.shape (o.generation, o.step)).0) → has (members_of sets to) (large_word number) ≡ true → IsLargeNoted youngest sets objects g places number
      noted_going to is member = λ o kept low high some. subst (λ h. has (members_of sets h) (large_word number) ≡ true) (is o kept.there) member
