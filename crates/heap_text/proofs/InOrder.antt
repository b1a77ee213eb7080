-- What a heap's order of objects has.
use Rattle.std.proofs.Common.{◌≡◌, ℕ, suc, Bool, true, false, List, [], ◌∷◌, length, filter, Option, Some, None, refl, sym, subst, ap, ◌∙◌, arith, ⊎_elim}
use Rattle.std.proofs.lemmas.Bool.Decides.{nat_tests}
use Rattle.std.proofs.lemmas.List.{length-map}
use Rattle.std.specs.Prelude.{nat_le, flat_map, IsSome, is_some, slice_get, option_and_then}
use Rattle.std.specs.Option.{option_map_or}
use Rattle.std.specs.FinMap.{keys, len, entries, len-entries}
use Rattle.model.specs.Graph.{Graph, Object, object_at, field_at, IsClosed}
use Rattle.model.specs.Live.{IsYoung}
use Rattle.model.specs.Laws.{ListsReached}
use Rattle.model.specs.OldSlots.{is_young_name}
use Rattle.model.specs.Reached.{first, later, has, reached_list}
use Rattle.model.specs.Store.{some_of, targets}
use Rattle.model.specs.Text.{targets_at}
use Rattle.model.proofs.Has.{has_none, has-cons, has_head, has_tail}
use Rattle.model.proofs.ReachedList.{reached_list_exact}
use Rattle.heap.specs.CollectionValue.{young_names}
use Rattle.model.proofs.MapKeys.{has_key, key_has}
use Rattle.heap_text.specs.Numbering.{IsClosedOrder}

-- a target of an object is what one of its fields holds
field_of : (pointers : List (Option ℕ)) (target : ℕ) → has (flat_map some_of pointers) target ≡ true → (i : ℕ) × (slice_get pointers i ≡ Some (Some target))
field_of [] target h = has_none target h
field_of (None ∷ pointers) target h = let r = field_of pointers target h in (suc r.0, r.1)
field_of (Some t ∷ pointers) target h =
    ⊎_elim
    (λ (e : target ≡ t). (0, ap (λ x. Some (Some x)) (sym e)))
    (λ (r : has (flat_map some_of pointers) target ≡ true). let f = field_of pointers target r in (suc f.0, f.1))
    (has-cons t (flat_map some_of pointers) target h)

-- an object's targets are there
target_there : (graph : Graph) → IsClosed graph → (name target : ℕ) → has (targets_at (object_at graph) name) target ≡ true → IsSome (object_at graph target)
target_there graph closed name target h = go (object_at graph name) refl h
  where
    go : (o : Option Object) → object_at graph name ≡ o → has (option_map_or targets o []) target ≡ true → IsSome (object_at graph target)
    go None e k = has_none target k
    go (Some o) e k =
        let f = field_of o.pointers target k in
        let leads : field_at graph name f.0 ≡ Some (Some target) = ap (λ x. option_and_then (λ object. slice_get object.pointers f.0) x) e ∙ f.1 in
        let there = closed.fields name f.0 target leads in
        ap is_some there.1

pub length_keys : (graph : Graph) → length (keys graph.objects) ≡ len graph.objects
length_keys graph = length-map (entries graph.objects) (λ (e : ℕ × Object). e.0) ∙ sym (len-entries graph.objects)

module _ (graph : Graph) (closed : IsClosed graph) (starts : List ℕ) (started : (k : ℕ) → has starts k ≡ true → IsSome (object_at graph k)) (order : List ℕ) (is : order ≡ reached_list (targets_at (object_at graph)) (len graph.objects) starts) where
  exact : ListsReached (targets_at (object_at graph)) starts (reached_list (targets_at (object_at graph)) (len graph.objects) starts)
  exact =
      reached_list_exact (targets_at (object_at graph)) starts (keys graph.objects) (len graph.objects)
      (λ k h. key_has graph.objects k (started k h))
      (λ m k h n. key_has graph.objects k (target_there graph closed m k n))
      (omega (arith, length_keys graph))

  pub order_started : (k : ℕ) → has starts k ≡ true → has order k ≡ true
  order_started k h = rw is (exact.all k (first h))

  pub order_closed : IsClosedOrder graph order
  order_closed name target h n = let h' : has (reached_list (targets_at (object_at graph)) (len graph.objects) starts) name ≡ true = subst (λ xs. has xs name ≡ true) is h in rw is (exact.all target (later (exact.only name h') n))

filter_all : (p : ℕ → Bool) (xs : List ℕ) → ((q : ℕ) → has xs q ≡ true → p q ≡ true) → filter p xs ≡ xs
filter_all p [] each = refl
filter_all p (x ∷ xs) each = rw (each x (has_head x xs)) (ap (λ ys. x ∷ ys) (filter_all p xs (λ q h. each q (has_tail x xs q h))))

-- where every object is young, all have numbers
pub all_young : (graph : Graph) (g : ℕ) → ((name : ℕ) → IsSome (object_at graph name) → IsYoung graph g name) → length (young_names graph g) ≡ len graph.objects
all_young graph g young =
    ap length (filter_all (is_young_name graph g) (keys graph.objects) (λ q h. let y = young q (has_key graph.objects q h) in is_young q y)) ∙ length_keys graph
  where
    is_young : (q : ℕ) → IsYoung graph g q → is_young_name graph g q ≡ true
    is_young q y = ap (λ o. option_map_or (λ x. nat_le x.generation g) o false) y.there ∙ grind (arith, nat_tests, y.young)
