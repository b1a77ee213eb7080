-- The objects of a store that a collection keeps are those that it keeps of the heap that stands for the store.
use Rattle.std.proofs.Common.{◌≡◌, ℕ, ◌≤◌, true, false, List, [], ◌++◌, map, length, Option, Some, None, refl, sym, ap, subst, ◌∙◌, arith, inl, inr, ⊎_elim}
use Rattle.std.specs.Prelude.{nat_lt, nat_le, slice_get, filter, option_and_then}
use Rattle.std.specs.Option.{option_map, option_map_or}
use Rattle.std.proofs.lemmas.Option.{slice_get-map}
use Rattle.std.proofs.lemmas.Bool.{true≢false, leb-true, le-leb, ltb-true, lt-ltb}
use Rattle.model.specs.Graph as graph
use Rattle.model.specs.Graph.{Graph, Object, root_at, field_at}
use Rattle.model.specs.Reached.{has, first, later}
use Rattle.model.specs.Live.{Live, IsYoung, IsRooted, IsStart, IsEdge}
use Rattle.model.specs.Laws.{IsNext, IsIn, ListsReached}
use Rattle.model.specs.Destination.{numbers_from}
use Rattle.model.specs.Store.{Store, object_at, present, targets, targets_of, old_targets, is_young_at, live_list}
use Rattle.model.proofs.Has.{has_none, has_either, has_left, has_right, has_filter_from, has_filter, has_numbers, length-numbers_from}
use Rattle.model.proofs.LiveLemmas.{Reached-map, Reached-ind}
use Rattle.model.proofs.ReachedList.{reached_list_exact}
use Rattle.trace_session.specs.NamesView.{named}
use Rattle.trace_session.specs.Stands.{renamed_object, IsPlaced, IsNamed}
use Rattle.trace_session.proofs.StoreObjects.{object_below}
use Rattle.trace_session.proofs.StoreLists.{old_target, target_old, pointer_at, at_pointer}
use Rattle.trace_session.proofs.NamedLemmas.{none_is_some, one_value, sorted_of}
use Rattle.trace_session.proofs.NameLists.{led_to, leads_to}

-- an object of the store of generation at most g
pub record IsYoungObject (store : Store) (g name : ℕ) : Type 0 where
  pub object : Object
  pub there : object_at store name ≡ Some object
  pub young : object.generation ≤ g

pub young_object : (store : Store) (g name : ℕ) → is_young_at store g name ≡ true → IsYoungObject store g name
young_object store g name young = go (object_at store name) refl young
  where
    go : (o : Option Object) → object_at store name ≡ o → option_map_or (λ x. nat_le x.generation g) o false ≡ true → IsYoungObject store g name
    go None is y = absurd (true≢false (sym y))
    go (Some o) is y = record { object = o; there = is; young = leb-true o.generation g y }

pub object_young : (store : Store) (g name : ℕ) (o : Object) → object_at store name ≡ Some o → o.generation ≤ g → is_young_at store g name ≡ true
object_young store g name o there young = ap (λ x. option_map_or (λ y. nat_le y.generation g) x false) there ∙ le-leb o.generation g young

-- a pointer of an object, as the list of what it points to has it
pub record PointsFrom (store : Store) (name target : ℕ) : Type 0 where
  pub object : Object
  pub there : object_at store name ≡ Some object
  pub points : has (targets object) target ≡ true

points_from : (store : Store) (name target : ℕ) → has (targets_of store name) target ≡ true → PointsFrom store name target
points_from store name target points = go (object_at store name) refl points
  where
    go : (o : Option Object) → object_at store name ≡ o → has (option_map_or targets o []) target ≡ true → PointsFrom store name target
    go None is h = has_none target h
    go (Some o) is h = record { object = o; there = is; points = h }

from_points : (store : Store) (name target : ℕ) (o : Object) → object_at store name ≡ Some o → has (targets o) target ≡ true → has (targets_of store name) target ≡ true
from_points store name target o there points = ap (λ x. has (option_map_or targets x []) target) there ∙ points

some_pointer : (place : ℕ → ℕ) (r : Option (Option ℕ)) (at : ℕ) → option_map (option_map place) r ≡ Some (Some at) → (target : ℕ) × ((r ≡ Some (Some target)) × (place target ≡ at))
some_pointer place None at e = let none : None ≡ Some (Some at) = e in absurd (cc)
some_pointer place (Some None) at e = let none : Some None ≡ Some (Some at) = e in absurd (cc)
some_pointer place (Some (Some target)) at e = let is : place target ≡ at = cc (e) in (target, (refl, is))

module _ (store : Store) (place : ℕ → ℕ) (heap : Graph) (names : List (List ℕ × ℕ)) (placed : IsPlaced store place heap) (is_named : IsNamed store place heap names) (g : ℕ) where
  abbrev pub next : ℕ → List ℕ
  next name = filter (is_young_at store g) (targets_of store name)

  abbrev pub led : List ℕ
  led = map (λ e. e.1) store.names

  abbrev pub start : List ℕ
  start = filter (is_young_at store g) (led ++ old_targets g (present store))

  below_all : (name : ℕ) → is_young_at store g name ≡ true → has (numbers_from 0 (length store.objects)) name ≡ true
  below_all name young =
      let o = young_object store g name young in
      let below = object_below store name o.object o.there in
      has_numbers 0 (length store.objects) name (omega arith) (omega (arith, below))

  pub lists : ListsReached next start (live_list store g)
  lists =
      reached_list_exact next start (numbers_from 0 (length store.objects)) (length store.objects)
      (λ k there. below_all k (has_filter_from (is_young_at store g) (led ++ old_targets g (present store)) k there).1)
      (λ m k there leads. below_all k (has_filter_from (is_young_at store g) (targets_of store m) k leads).1)
      (omega (arith, length-numbers_from 0 (length store.objects)))

  young_at : (name : ℕ) → is_young_at store g name ≡ true → IsYoung heap g (place name)
  young_at name young =
      let o = young_object store g name young in
      record { object = renamed_object place o.object; there = placed.objects name o.object o.there; young = o.young }

  -- the field of the heap that stands for a pointer of the store
  field_is : (name target : ℕ) (o : Object) → object_at store name ≡ Some o → has (targets o) target ≡ true → (i : ℕ) × (field_at heap (place name) i ≡ Some (Some (place target)))
  field_is name target o there points =
      let at = pointer_at o.pointers target points in
      (at.0, ap (λ x. option_and_then (λ (y : Object). slice_get y.pointers at.0) x) (placed.objects name o there) ∙ slice_get-map (option_map place) o.pointers at.0 ∙ ap (option_map (option_map place)) at.1)

  rooted : (name : ℕ) → has led name ≡ true → IsRooted heap (place name)
  rooted name there =
      let found = led_to store.names name (sorted_of store.names is_named.sorted) there in
      go found.0 found.1 (named names found.0) refl
    where
      go : (text : List ℕ) → named store.names text ≡ Some name → (r : Option ℕ) → named names text ≡ r → IsRooted heap (place name)
      go text found None is = none_is_some (named store.names text) name (is_named.free text is) found
      go text found (Some root) is =
          let leads = is_named.leads text root is in
          let name_is : leads.name ≡ name = one_value (named store.names text) leads.name name leads.named_is found in
          record { root = root; leads = leads.root_is ∙ ap (λ k. Some (place k)) name_is }

  start_is : (name : ℕ) → IsIn start name → IsStart heap g (place name)
  start_is name there =
      let kept = has_filter_from (is_young_at store g) (led ++ old_targets g (present store)) name there in (
        young_at name kept.1,
        ⊎_elim
            (λ led_here. inl (rooted name led_here))
            (λ old_here.
            let from = target_old store g name old_here in
            let field = field_is from.name name from.object from.there from.points in
            inr (
              place from.name,
              (
                field.0,
                record {
                  holder = record { object = renamed_object place from.object; there = placed.objects from.name from.object from.there; older = ltb-true g from.object.generation from.old };
                  leads = field.1;
                },
              ),
            ))
            (has_either led (old_targets g (present store)) name kept.0),
      )

  edge_is : (m k : ℕ) → IsNext next m k → IsEdge heap g (place m) (place k)
  edge_is m k there =
      let kept = has_filter_from (is_young_at store g) (targets_of store m) k there in
      let from = points_from store m k kept.0 in
      let field = field_is m k from.object from.there from.points in
      record { i = field.0; leads = field.1; young = young_at k kept.1 }

  pub listed_young : (name : ℕ) → has (live_list store g) name ≡ true → is_young_at store g name ≡ true
  listed_young name there = Reached-ind (λ n. is_young_at store g n ≡ true) (λ n h. (has_filter_from (is_young_at store g) (led ++ old_targets g (present store)) n h).1) (λ a b p h. (has_filter_from (is_young_at store g) (targets_of store a) b h).1) name (lists.only name there)

  -- a young object that a listed one points to is listed
  pub step_listed : (name target : ℕ) (o : Object) → object_at store name ≡ Some o → has (live_list store g) name ≡ true → has (targets o) target ≡ true → is_young_at store g target ≡ true → has (live_list store g) target ≡ true
  step_listed name target o there listed points young =
      lists.all target (later (lists.only name listed) (has_filter (is_young_at store g) (targets_of store name) target (from_points store name target o there points) young))

  -- a young object that an older one points to is listed
  pub old_listed : (name target : ℕ) (o : Object) → object_at store name ≡ Some o → nat_lt g o.generation ≡ true → has (targets o) target ≡ true → is_young_at store g target ≡ true → has (live_list store g) target ≡ true
  old_listed name target o there old points young =
      lists.all target (first (has_filter (is_young_at store g) (led ++ old_targets g (present store)) target (has_right led (old_targets g (present store)) target (old_target store g name target o there old points)) young))

  -- a young object that a name leads to is listed
  pub named_listed : (text : List ℕ) (name : ℕ) → named store.names text ≡ Some name → is_young_at store g name ≡ true → has (live_list store g) name ≡ true
  named_listed text name found young =
      lists.all name (first (has_filter (is_young_at store g) (led ++ old_targets g (present store)) name (has_left led (old_targets g (present store)) name (leads_to store.names text name found)) young))

  -- what the list has is live
  pub listed_live : (name : ℕ) → has (live_list store g) name ≡ true → Live heap g (place name)
  listed_live name there = Reached-map place start_is edge_is name (lists.only name there)

  -- the object of the store that stands at a place
  pub record Stands (at : ℕ) : Type 0 where
    pub name : ℕ
    pub object : Object
    pub there : object_at store name ≡ Some object
    pub place_is : place name ≡ at

  pub stands_at : (at : ℕ) (o : Object) → graph.object_at heap at ≡ Some o → Stands at
  stands_at at o there = let found = placed.no_others at o there in record { name = found.0; object = found.1.0; there = found.1.1.0; place_is = found.1.1.1 }

  pub same_generation : (at : ℕ) (o : Object) (found : graph.object_at heap at ≡ Some o) (s : Stands at) → s.object.generation ≡ o.generation
  same_generation at o found s =
      let here : Some (renamed_object place s.object) ≡ Some o = sym (placed.objects s.name s.object s.there) ∙ ap (graph.object_at heap) s.place_is ∙ found in
      let is : renamed_object place s.object ≡ o = cc (here) in
      ap (λ x. x.generation) is

  young_name : (at : ℕ) (young : IsYoung heap g at) (s : Stands at) → is_young_at store g s.name ≡ true
  young_name at young s = object_young store g s.name s.object s.there (omega (arith, same_generation at young.object young.there s, young.young))

  -- a field of the heap is a pointer of the store
  pointer_is : (at i to : ℕ) (s : Stands at) (t : Stands to) → field_at heap at i ≡ Some (Some to) → has (targets s.object) t.name ≡ true
  pointer_is at i to s t leads =
      let here : field_at heap at i ≡ slice_get (map (option_map place) s.object.pointers) i = ap (λ x. field_at heap x i) (sym s.place_is) ∙ ap (λ x. option_and_then (λ (y : Object). slice_get y.pointers i) x) (placed.objects s.name s.object s.there) in
      let found = some_pointer place (slice_get s.object.pointers i) to (sym (slice_get-map (option_map place) s.object.pointers i) ∙ sym here ∙ leads) in
      let points : has (targets s.object) found.0 ≡ true = at_pointer s.object.pointers i found.0 found.1.0 in
      let target = placed.closed s.name found.0 s.object s.there points in
      let is : found.0 ≡ t.name = placed.one_to_one found.0 t.name target.0 t.object target.1 t.there (found.1.1 ∙ sym t.place_is) in
      subst (λ x. has (targets s.object) x ≡ true) is points

  pub record Listed (at : ℕ) : Type 0 where
    pub name : ℕ
    pub place_is : place name ≡ at
    pub listed : has (live_list store g) name ≡ true

  first_listed : (at : ℕ) → IsStart heap g at → Listed at
  first_listed at begins =
      let young = begins.0 in
      let s = stands_at at young.object young.there in
      let in_list : has (led ++ old_targets g (present store)) s.name ≡ true =
      ⊎_elim
      (λ root.
      let found = is_named.no_others root.root at root.leads in
      let leads = is_named.leads found.0 root.root found.1 in
      let at_place : place leads.name ≡ at = one_value (root_at heap root.root) (place leads.name) at leads.root_is root.leads in
      let is : leads.name ≡ s.name = placed.one_to_one leads.name s.name leads.object s.object leads.there s.there (at_place ∙ sym s.place_is) in
      has_left led (old_targets g (present store)) s.name (leads_to store.names found.0 s.name (leads.named_is ∙ ap (λ k. Some k) is)))
      (λ slot.
      let holder = slot.1.1.holder in
      let h = stands_at slot.0 holder.object holder.there in
      let old : nat_lt g h.object.generation ≡ true = lt-ltb g h.object.generation (omega (arith, same_generation slot.0 holder.object holder.there h, holder.older)) in
      has_right led (old_targets g (present store)) s.name (old_target store g h.name s.name h.object h.there old (pointer_is slot.0 slot.1.0 at h s slot.1.1.leads)))
      begins.1 in
      record {
        name = s.name;
        place_is = s.place_is;
        listed = lists.all s.name (first (has_filter (is_young_at store g) (led ++ old_targets g (present store)) s.name in_list (young_name at young s)));
      }

  next_listed : (m k : ℕ) → Listed m → IsEdge heap g m k → Listed k
  next_listed m k before edge =
      let t = stands_at k edge.young.object edge.young.there in
      let young_o = young_object store g before.name (listed_young before.name before.listed) in
      let h : Stands m = record { name = before.name; object = young_o.object; there = young_o.there; place_is = before.place_is } in
      let points = from_points store before.name t.name young_o.object young_o.there (pointer_is m edge.i k h t edge.leads) in
      record {
        name = t.name;
        place_is = t.place_is;
        listed = lists.all t.name (later (lists.only before.name before.listed) (has_filter (is_young_at store g) (targets_of store before.name) t.name points (young_name k edge.young t)));
      }

  -- what is live is in the list
  pub live_listed : (at : ℕ) → Live heap g at → Listed at
  live_listed at live = Reached-ind Listed first_listed next_listed at live
