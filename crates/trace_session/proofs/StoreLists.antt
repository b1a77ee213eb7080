-- The objects of a store as a list, and the names that lead to them.
use Rattle.std.proofs.Common.{◌≡◌, ℕ, zero, suc, true, List, [], ◌∷◌, Option, Some, None, refl, sym, ap, subst, ◌∙◌, inl, inr, ⊎_elim}
use Rattle.std.specs.Prelude.{nat_lt, slice_get, filter, filter_map, flat_map}
use Rattle.model.specs.Graph.{Object}
use Rattle.model.specs.Reached.{has}
use Rattle.model.specs.Store.{Store, object_at, present, targets, old_targets, some_of}
use Rattle.model.proofs.SlotMap.{slot_at}
use Rattle.model.proofs.Has.{has_none, has_head, has_tail, has-cons, has_either, has_left, has_right}
use Rattle.model.proofs.Among.{Among, among_filter, among_filter_from}
use Rattle.trace_session.proofs.StoreObjects.{at_slot}

-- an object that is there is one of those present
slot_present : (objects : List (Option Object)) (k : ℕ) (o : Object) → slot_at objects k ≡ Some o → Among o (filter_map (λ x. x) objects)
slot_present [] k o there = let none : None ≡ Some o = there in absurd (cc)
slot_present (None ∷ objects) zero o there = let none : None ≡ Some o = there in absurd (cc)
slot_present (Some p ∷ objects) zero o there = let same : o ≡ p = cc (there) in inl same
slot_present (None ∷ objects) (suc k) o there = slot_present objects k o there
slot_present (Some p ∷ objects) (suc k) o there = inr (slot_present objects k o there)

present_slot : (objects : List (Option Object)) (o : Object) → Among o (filter_map (λ x. x) objects) → (k : ℕ) × (slot_at objects k ≡ Some o)
present_slot [] o there = absurd there
present_slot (None ∷ objects) o there = let at = present_slot objects o there in (suc at.0, at.1)
present_slot (Some p ∷ objects) o (inl same) = (0, ap (λ x. Some x) (sym same))
present_slot (Some p ∷ objects) o (inr there) = let at = present_slot objects o there in (suc at.0, at.1)

pub object_present : (store : Store) (name : ℕ) (o : Object) → object_at store name ≡ Some o → Among o (present store)
object_present store name o there = slot_present store.objects name o (sym (at_slot store.objects name) ∙ there)

pub present_object : (store : Store) (o : Object) → Among o (present store) → (name : ℕ) × (object_at store name ≡ Some o)
present_object store o there = let at = present_slot store.objects o there in (at.0, at_slot store.objects at.0 ∙ at.1)

-- what some of the objects point to
has_targets : (objects : List Object) (o : Object) (target : ℕ) → Among o objects → has (targets o) target ≡ true → has (flat_map targets objects) target ≡ true
has_targets [] o target there points = absurd there
has_targets (p ∷ objects) o target (inl same) points = has_left (targets p) (flat_map targets objects) target (subst (λ x. has (targets x) target ≡ true) same points)
has_targets (p ∷ objects) o target (inr there) points = has_right (targets p) (flat_map targets objects) target (has_targets objects o target there points)

pub record PointedFrom (objects : List Object) (target : ℕ) : Type 0 where
  pub object : Object
  pub among : Among object objects
  pub points : has (targets object) target ≡ true

targets_of_some : (objects : List Object) (target : ℕ) → has (flat_map targets objects) target ≡ true → PointedFrom objects target
targets_of_some [] target there = has_none target there
targets_of_some (p ∷ objects) target there =
    ⊎_elim
    (λ here. record { object = p; among = inl refl; points = here })
    (λ later. let from = targets_of_some objects target later in record { object = from.object; among = inr from.among; points = from.points })
    (has_either (targets p) (flat_map targets objects) target there)

pub old_target : (store : Store) (g name target : ℕ) (o : Object) → object_at store name ≡ Some o → nat_lt g o.generation ≡ true → has (targets o) target ≡ true → has (old_targets g (present store)) target ≡ true
old_target store g name target o there old points =
    has_targets (filter (λ x. nat_lt g x.generation) (present store)) o target (among_filter (λ x. nat_lt g x.generation) (present store) o (object_present store name o there) old) points

pub record OldPointer (store : Store) (g target : ℕ) : Type 0 where
  pub name : ℕ
  pub object : Object
  pub there : object_at store name ≡ Some object
  pub old : nat_lt g object.generation ≡ true
  pub points : has (targets object) target ≡ true

pub target_old : (store : Store) (g target : ℕ) → has (old_targets g (present store)) target ≡ true → OldPointer store g target
target_old store g target there =
    let from = targets_of_some (filter (λ x. nat_lt g x.generation) (present store)) target there in
    let kept = among_filter_from (λ x. nat_lt g x.generation) (present store) from.object from.among in
    let at = present_object store from.object kept.among in
    record { name = at.0; object = from.object; there = at.1; old = kept.passes; points = from.points }

-- a pointer of a list of pointers
pub pointer_at : (pointers : List (Option ℕ)) (target : ℕ) → has (flat_map some_of pointers) target ≡ true → (i : ℕ) × (slice_get pointers i ≡ Some (Some target))
pointer_at [] target there = has_none target there
pointer_at (None ∷ pointers) target there = let at = pointer_at pointers target there in (suc at.0, at.1)
pointer_at (Some t ∷ pointers) target there =
    ⊎_elim
    (λ is. (0, ap (λ x. Some (Some x)) (sym is)))
    (λ later. let at = pointer_at pointers target later in (suc at.0, at.1))
    (has-cons t (flat_map some_of pointers) target there)

pub at_pointer : (pointers : List (Option ℕ)) (i target : ℕ) → slice_get pointers i ≡ Some (Some target) → has (flat_map some_of pointers) target ≡ true
at_pointer [] i target there = let none : None ≡ Some (Some target) = there in absurd (cc)
at_pointer (None ∷ pointers) zero target there = let none : Some None ≡ Some (Some target) = there in absurd (cc)
at_pointer (Some t ∷ pointers) zero target there = let is : t ≡ target = cc (there) in subst (λ x. has (t ∷ flat_map some_of pointers) x ≡ true) is (has_head t (flat_map some_of pointers))
at_pointer (None ∷ pointers) (suc i) target there = at_pointer pointers i target there
at_pointer (Some t ∷ pointers) (suc i) target there = has_tail t (flat_map some_of pointers) target (at_pointer pointers i target there)
