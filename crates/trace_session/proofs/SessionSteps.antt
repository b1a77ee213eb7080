-- What a new object and a dropped name do to a session that stands for a store.
use Rattle.std.proofs.Common.{◌≡◌, ℕ, ◌+◌, ◌<◌, true, false, List, [], length, Option, Some, None, Ok, Err, refl, sym, ap, subst, inl, inr}
use Rattle.std.specs.Prelude.{nat_lt, not, is_some, is_ok, slice_set}
use Rattle.std.specs.Option.{option_map}
use Rattle.std.specs.Ordering.{nat_cmp}
use Rattle.std.specs.FinMap.{get-empty, len-empty}
use Rattle.std.proofs.lemmas.Bool.{true≢false, lt-ltb, and_parts}
use Rattle.model.specs.declared.kind.Kind.TheVariants.{NameInUse}
use Rattle.model.specs.Graph.{Graph, root_at, without_root}
use Rattle.model.specs.Config.{Config}
use Rattle.model.specs.Room.{Room}
use Rattle.model.specs.Store.{Store, empty_store}
use Rattle.model.specs.Commands.{New, Drop, room_in, is_large_size, is_too_big, with_new, with_room, without_name}
use Rattle.heap.specs.HeapValue.{HeapValue, empty_heap}
use Rattle.heap.specs.Commands.{Allocates, AllocatesSmall, AllocatesLarge}
use Rattle.steps.specs.declared.heap_values.root_id.RootId.{RootId}
use Rattle.trace_session.specs.CollectsFirst.{CollectsFirst}
use Rattle.trace_session.specs.Outcome.{command_step}
use Rattle.trace_session.specs.Stepped.{StepsQuietly}
use Rattle.trace_session.specs.declared.session.Session.{Session}
use Rattle.trace_session.specs.NamesView.{named}
use Rattle.trace_session.specs.Refusals.{CommandMayBeFull, LacksBlocks}
use Rattle.trace_session.specs.Made.{MadeByCalls, made, allocated, released}
use Rattle.trace_session.specs.Stands.{StandsFor, IsPlaced, IsNamed}
use Rattle.trace_session.proofs.NamedLemmas.{added, dropped, none_is_some}
use Rattle.trace_session.proofs.PlacedNew.{placed_new, place_with}
use Rattle.trace_session.proofs.NamedNew.{named_new}
use Rattle.trace_session.proofs.NamedDropped.{named_dropped}

-- a heap without objects and no names stand for the store without objects
pub StandsFor-empty : (config : Config) (heap : HeapValue) (names : List (List ℕ × ℕ)) → heap ≡ empty_heap config → names ≡ [] → StandsFor heap names config (empty_store config)
StandsFor-empty config heap names heap_is names_are =
    subst (λ n. StandsFor heap n config (empty_store config)) (sym names_are)
    (subst (λ h. StandsFor h [] config (empty_store config)) (sym heap_is)
    (record {
      made = made config;
      config_is = refl;
      rooms_are = refl;
      place = λ n. n;
      placed = record {
        objects = λ name o there. let none : None ≡ Some o = there in absurd (cc);
        no_others = λ at o there. none_is_some _ o (get-empty nat_cmp at) there;
        one_to_one = λ a b o p at_a at_b same. same;
        closed = λ name target o there points. let none : None ≡ Some o = there in absurd (cc);
      };
      names_are = record {
        leads = λ text root found. let none : None ≡ Some root = found in absurd (cc);
        free = λ text none. refl;
        apart = λ s t root found_s found_t. let none : None ≡ Some root = found_s in absurd (cc);
        no_others = λ root target leads. none_is_some _ target (get-empty nat_cmp root) leads;
        sorted = refl;
        count = len-empty nat_cmp ℕ;
      };
    }))

-- rooms have no part in what names and objects are
IsPlaced-other : (store : Store) (place : ℕ → ℕ) (heap : Graph) (names : List (List ℕ × ℕ)) (rooms : List Room) (other : Graph) → IsPlaced store place heap → other.objects ≡ heap.objects → IsPlaced (record store { names = names; rooms = rooms }) place other
IsPlaced-other store place heap names rooms other placed same = record {
  objects = λ name o there. rw same (placed.objects name o there);
  no_others = λ at o there. placed.no_others at o (rw same at there);
  one_to_one = placed.one_to_one;
  closed = placed.closed;
}

IsNamed-rooms : (store : Store) (place : ℕ → ℕ) (heap : Graph) (names : List (List ℕ × ℕ)) (rooms : List Room) → IsNamed store place heap names → IsNamed (record store { rooms = rooms }) place heap names
IsNamed-rooms store place heap names rooms before = record {
  leads = λ text root found. let l = before.leads text root found in record { name = l.name; object = l.object; named_is = l.named_is; there = l.there; root_is = l.root_is };
  free = before.free;
  apart = before.apart;
  no_others = before.no_others;
  sorted = before.sorted;
  count = before.count;
}

-- sessions that are the same have the same heap and names
pub heap_of : {A : Type 0} (a b : Session A) → a ≡ b → a.heap ≡ b.heap
heap_of a b same = ap (λ s. s.heap) same

pub names_of : {A : Type 0} (a b : Session A) → a ≡ b → a.names ≡ b.names
names_of a b same = ap (λ s. s.names) same

-- a name is in use in the session exactly where it is in the store
pub root_known : (r : Option RootId) (names : List (List ℕ × ℕ)) (text : List ℕ) → option_map (λ (x : RootId). x.number) r ≡ named names text → is_some r ≡ true → (root : ℕ) × (named names text ≡ Some root)
root_known None names text is known = absurd (true≢false (sym known))
root_known (Some r) names text is known = (r.number, sym is)

pub root_unknown : (r : Option RootId) (names : List (List ℕ × ℕ)) (text : List ℕ) → option_map (λ (x : RootId). x.number) r ≡ named names text → is_some r ≡ false → named names text ≡ None
root_unknown None names text is unknown = sym is
root_unknown (Some r) names text is unknown = absurd (true≢false unknown)

module _ (heap : HeapValue) (names : List (List ℕ × ℕ)) (config : Config) (store : Store) (stands : StandsFor heap names config store) where
  pub name_in_use : (text : List ℕ) (m p q root : ℕ) → named names text ≡ Some root → command_step config store (New text m p q) ≡ Err NameInUse
  name_in_use text m p q root found =
      let leads = stands.names_are.leads text root found in
      rw leads.named_is refl

  new_step : (text : List ℕ) (m p q : ℕ) (room : Room) → named store.names text ≡ None → m < config.mutators → is_too_big p q ≡ false → is_large_size config (1 + p + q) ≡ false → room_in config m (1 + p + q) store ≡ Some room → command_step config store (New text m p q) ≡ Ok (with_new text p q (with_room m room store), [])
  new_step text m p q room free in_range fits small has_room =
      let known : nat_lt m config.mutators ≡ true = lt-ltb m config.mutators in_range in
      rw (free, known, fits, small, has_room) refl

  new_large : (text : List ℕ) (m p q : ℕ) → named store.names text ≡ None → m < config.mutators → is_too_big p q ≡ false → is_large_size config (1 + p + q) ≡ true → command_step config store (New text m p q) ≡ Ok (with_new text p q store, [])
  new_large text m p q free in_range fits large =
      let known : nat_lt m config.mutators ≡ true = lt-ltb m config.mutators in_range in
      rw (free, known, fits, large) refl

  steps_small : (text : List ℕ) (m p q root : ℕ) (heap' : HeapValue) (names' : List (List ℕ × ℕ)) → named names text ≡ None → AllocatesSmall heap m p q root heap' → names' ≡ added names text root → m < heap.config.mutators → is_too_big p q ≡ false → StepsQuietly (StandsFor heap' names') config (command_step config store (New text m p q))
  steps_small text m p q root heap' names' free allocates names_are in_range fits =
      let room = allocates.room in
      let next : Store = with_new text p q (with_room m room store) in
      let has_room : room_in config m (1 + p + q) store ≡ Some room = rw (← stands.config_is, ← stands.rooms_are) allocates.has_room in
      let not_large : is_large_size config (1 + p + q) ≡ false = rw (← stands.config_is) allocates.small in
      let placed = placed_new store stands.place heap.graph stands.placed p q allocates.name allocates.new_name in
      let are_named = named_new store stands.place heap.graph names stands.placed stands.names_are p q allocates.name allocates.new_name root allocates.new_root text free in
      record {
        next = next;
        steps = new_step text m p q room (stands.names_are.free text free) (rw (← stands.config_is) in_range) fits not_large has_room;
        stands' =
            subst (λ n. StandsFor heap' n config next) (sym names_are)
            (subst (λ h. StandsFor h (added names text root) config next) (sym allocates.change)
            (record {
              made = subst MadeByCalls allocates.change (allocated m p q root stands.made (inl allocates));
              config_is = stands.config_is;
              rooms_are = ap (λ rooms. slice_set rooms m room) stands.rooms_are;
              place = place_with stands.place (length store.objects) allocates.name;
              placed = IsPlaced-other _ _ _ _ _ _ placed refl;
              names_are = IsNamed-rooms _ _ _ _ _ are_named;
            }));
      }

  steps_large : (text : List ℕ) (m p q root : ℕ) (heap' : HeapValue) (names' : List (List ℕ × ℕ)) → named names text ≡ None → AllocatesLarge heap p q root heap' → names' ≡ added names text root → m < heap.config.mutators → is_too_big p q ≡ false → StepsQuietly (StandsFor heap' names') config (command_step config store (New text m p q))
  steps_large text m p q root heap' names' free allocates names_are in_range fits =
      let next : Store = with_new text p q store in
      let large : is_large_size config (1 + p + q) ≡ true = rw (← stands.config_is) allocates.large in
      let placed = placed_new store stands.place heap.graph stands.placed p q allocates.name allocates.new_name in
      let are_named = named_new store stands.place heap.graph names stands.placed stands.names_are p q allocates.name allocates.new_name root allocates.new_root text free in
      record {
        next = next;
        steps = new_large text m p q (stands.names_are.free text free) (rw (← stands.config_is) in_range) fits large;
        stands' =
            subst (λ n. StandsFor heap' n config next) (sym names_are)
            (subst (λ h. StandsFor h (added names text root) config next) (sym allocates.change)
            (record {
              made = subst MadeByCalls allocates.change (allocated m p q root stands.made (inr allocates));
              config_is = stands.config_is;
              rooms_are = stands.rooms_are;
              place = place_with stands.place (length store.objects) allocates.name;
              placed = IsPlaced-other _ _ _ _ _ _ placed refl;
              names_are = are_named;
            }));
      }

  pub steps_new : (text : List ℕ) (m p q root : ℕ) (heap' : HeapValue) (names' : List (List ℕ × ℕ)) → named names text ≡ None → Allocates heap m p q root heap' → names' ≡ added names text root → m < heap.config.mutators → is_too_big p q ≡ false → StepsQuietly (StandsFor heap' names') config (command_step config store (New text m p q))
  steps_new text m p q root heap' names' free (inl small) names_are in_range fits = steps_small text m p q root heap' names' free small names_are in_range fits
  steps_new text m p q root heap' names' free (inr large) names_are in_range fits = steps_large text m p q root heap' names' free large names_are in_range fits

  not_first : (text : List ℕ) (m p q : ℕ) → is_large_size config (1 + p + q) ≡ true → ¬ CollectsFirst config store (New text m p q)
  not_first text m p q large first =
      let small : not (is_large_size config (1 + p + q)) ≡ true = (and_parts (not (is_large_size config (1 + p + q))) (not (is_some (room_in config m (1 + p + q) store))) first).0 in
      true≢false (sym (rw large at small))

  -- what was allocated had room
  pub had_room : (text : List ℕ) (m p q root : ℕ) (heap' : HeapValue) → Allocates heap m p q root heap' → ¬ CollectsFirst config store (New text m p q)
  had_room text m p q root heap' (inl allocates) first =
      let has_room : room_in config m (1 + p + q) store ≡ Some allocates.room = rw (← stands.config_is, ← stands.rooms_are) allocates.has_room in
      let none : not (is_some (room_in config m (1 + p + q) store)) ≡ true = (and_parts (not (is_large_size config (1 + p + q))) (not (is_some (room_in config m (1 + p + q) store))) first).1 in
      true≢false (sym (rw has_room at none))
  had_room text m p q root heap' (inr allocates) first = not_first text m p q (rw (← stands.config_is) allocates.large) first

  -- a large object without blocks has no fault of its own
  pub large_full : (text : List ℕ) (m p q : ℕ) → named names text ≡ None → m < heap.config.mutators → is_too_big p q ≡ false → LacksBlocks heap p q → CommandMayBeFull 1 config store (New text m p q) × ¬ CollectsFirst config store (New text m p q)
  large_full text m p q free in_range fits lacks =
      let large : is_large_size config (1 + p + q) ≡ true = rw (← stands.config_is) lacks.large in (
        record {
          sound = ap is_ok (new_large text m p q (stands.names_are.free text free) (rw (← stands.config_is) in_range) fits large);
          wants = inr (record { heap = heap; names = names; stands = stands; lacks = lacks });
        },
        not_first text m p q large,
      )

  pub steps_drop : (text : List ℕ) (root : ℕ) (heap' : HeapValue) (names' : List (List ℕ × ℕ)) → named names text ≡ Some root → heap' ≡ record heap { graph = without_root heap.graph root } → names' ≡ dropped names text → StepsQuietly (StandsFor heap' names') config (command_step config store (Drop text))
  steps_drop text root heap' names' used heap_is names_are =
      let leads = stands.names_are.leads text root used in
      record {
        next = without_name text store;
        steps = rw leads.named_is refl;
        stands' =
            subst (λ n. StandsFor heap' n config (without_name text store)) (sym names_are)
            (subst (λ h. StandsFor h (dropped names text) config (without_name text store)) (sym heap_is)
            (record {
              made = released root stands.made;
              config_is = stands.config_is;
              rooms_are = stands.rooms_are;
              place = stands.place;
              placed = IsPlaced-other _ _ _ _ _ _ stands.placed refl;
              names_are = named_dropped store stands.place heap.graph names stands.names_are text root used;
            }));
      }

  pub root_there : (text : List ℕ) (root : ℕ) → named names text ≡ Some root → is_some (root_at heap.graph root) ≡ true
  root_there text root used = ap is_some (stands.names_are.leads text root used).root_is
