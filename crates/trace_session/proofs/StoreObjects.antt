-- The objects of a store, by name.
use Rattle.std.proofs.Common.{◌≡◌, ◌≢◌, ℕ, zero, suc, ◌+◌, ◌<◌, ◌≤◌, true, false, List, [], ◌∷◌, ◌++◌, length, Option, Some, None, refl, sym, ap, ◌∙◌, arith, ◌⊎◌, ⊎_elim}
use Rattle.std.specs.Prelude.{slice_get, option_and_then, map, replicate, flat_map}
use Rattle.std.specs.Option.{option_map}
use Rattle.std.proofs.str.Laws.{order}
use Rattle.model.specs.Graph.{Object, fresh_object}
use Rattle.model.specs.Destination.{Shape}
use Rattle.model.specs.Reached.{has}
use Rattle.model.specs.Store.{Store, object_at, targets, some_of, survivors, kept_or_gone}
use Rattle.model.proofs.SlotMap.{slot_at, slot_at-push_same, slot_at-push_other, slot_at_past}
use Rattle.model.proofs.Has.{has_head, has_tail}
use Rattle.trace_session.specs.Stands.{renamed_object}

pub at_slot : {X : Type 0} (xs : List (Option X)) (k : ℕ) → option_and_then (λ (o : Option X). o) (slice_get xs k) ≡ slot_at xs k
at_slot [] k = refl
at_slot (x ∷ xs) zero = refl
at_slot (x ∷ xs) (suc k) = at_slot xs k

pub object_below : (store : Store) (name : ℕ) (o : Object) → object_at store name ≡ Some o → name < length store.objects
object_below store name o there =
    ⊎_elim (λ below. below) (λ past. let none : None ≡ Some o = sym (at_slot store.objects name ∙ slot_at_past store.objects name past) ∙ there in absurd (cc)) (below_or_past name (length store.objects))
  where
    below_or_past : (n k : ℕ) → (n < k) ⊎ (k ≤ n)
    below_or_past n k = order n k

-- a store with one object more
abbrev pub with_object : Store → Object → Store
with_object store o = record store { objects = store.objects ++ Some o ∷ [] }

pub object_at-new : (store : Store) (o : Object) → object_at (with_object store o) (length store.objects) ≡ Some o
object_at-new store o = at_slot (store.objects ++ Some o ∷ []) (length store.objects) ∙ slot_at-push_same store.objects (Some o)

pub object_at-other : (store : Store) (o : Object) (name : ℕ) → name ≢ length store.objects → object_at (with_object store o) name ≡ object_at store name
object_at-other store o name ne = at_slot (store.objects ++ Some o ∷ []) name ∙ slot_at-push_other store.objects name (Some o) ne ∙ sym (at_slot store.objects name)

-- what is left of an object after a collection
pub slot_at-survivors : (shape : Shape) (g : ℕ) (live : List ℕ) (i : ℕ) (objects : List (Option Object)) (k : ℕ) → slot_at (survivors shape g live i objects) k ≡ kept_or_gone shape g (has live (i + k)) (slot_at objects k)
slot_at-survivors shape g live i [] k = refl
slot_at-survivors shape g live i (o ∷ objects) zero = let same : i ≡ i + 0 = omega arith in ap (λ n. kept_or_gone shape g (has live n) o) same
slot_at-survivors shape g live i (o ∷ objects) (suc k) = let same : i + 1 + k ≡ i + suc k = omega arith in slot_at-survivors shape g live (i + 1) objects k ∙ ap (λ n. kept_or_gone shape g (has live n) (slot_at objects k)) same

-- pointers renamed alike at each object that they lead to are the same
pub same_pointers : (f f' : ℕ → ℕ) (pointers : List (Option ℕ)) → ((target : ℕ) → has (flat_map some_of pointers) target ≡ true → f target ≡ f' target) → map (option_map f) pointers ≡ map (option_map f') pointers
same_pointers f f' [] same = refl
same_pointers f f' (None ∷ pointers) same = ap (λ ps. None ∷ ps) (same_pointers f f' pointers same)
same_pointers f f' (Some target ∷ pointers) same =
    let here : f target ≡ f' target = same target (has_head target (flat_map some_of pointers)) in
    let rest : map (option_map f) pointers ≡ map (option_map f') pointers = same_pointers f f' pointers (λ t there. same t (has_tail target (flat_map some_of pointers) t there)) in
    λ i. Some (here i) ∷ rest i

pub same_renamed : (f f' : ℕ → ℕ) (o : Object) → ((target : ℕ) → has (targets o) target ≡ true → f target ≡ f' target) → renamed_object f o ≡ renamed_object f' o
same_renamed f f' o same = ap (λ ps. record o { pointers = ps }) (same_pointers f f' o.pointers same)

nil_pointers : (f : ℕ → ℕ) (p : ℕ) → map (option_map f) (replicate p None) ≡ replicate p None
nil_pointers f zero = refl
nil_pointers f (suc p) = ap (λ ps. None ∷ ps) (nil_pointers f p)

pub renamed_fresh : (f : ℕ → ℕ) (p q : ℕ) → renamed_object f (fresh_object p q) ≡ fresh_object p q
renamed_fresh f p q = ap (λ ps. record (fresh_object p q) { pointers = ps }) (nil_pointers f p)

no_targets : (p target : ℕ) → has (flat_map some_of (replicate p None)) target ≡ false
no_targets zero target = refl
no_targets (suc p) target = no_targets p target

pub fresh_leads_nowhere : (p q target : ℕ) → has (targets (fresh_object p q)) target ≡ false
fresh_leads_nowhere p q target = no_targets p target
