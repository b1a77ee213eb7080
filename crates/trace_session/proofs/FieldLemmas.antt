-- A field of an object, changed.
use Rattle.std.proofs.Common.{◌≡◌, ℕ, zero, suc, true, List, [], ◌∷◌, Option, Some, None, sym, ap, ◌⊎◌, inl, inr, ⊎_elim}
use Rattle.std.specs.Prelude.{flat_map, slice_set}
use Rattle.std.specs.Option.{option_map}
use Rattle.std.proofs.lemmas.List.{map-set}
use Rattle.model.specs.Graph.{Object, with_pointer}
use Rattle.model.specs.Reached.{has}
use Rattle.model.specs.Store.{targets, some_of}
use Rattle.model.proofs.Has.{has_none, has-cons, has_either, has_left, has_right}
use Rattle.trace_session.specs.Stands.{renamed_object}

-- a pointer is changed alike before and after its renaming
pub renamed_pointer : (place : ℕ → ℕ) (o : Object) (i : ℕ) (value : Option ℕ) → with_pointer (renamed_object place o) i (option_map place value) ≡ renamed_object place (with_pointer o i value)
renamed_pointer place o i value = ap (λ ps. record o { pointers = ps }) (sym (map-set (option_map place) o.pointers i value))

only_some : (value : Option ℕ) (target : ℕ) → has (some_of value) target ≡ true → value ≡ Some target
only_some None target h = has_none target h
only_some (Some name) target h = ⊎_elim (λ e. ap (λ x. Some x) (sym e)) (λ n. has_none target n) (has-cons name [] target h)

pointers_led : (pointers : List (Option ℕ)) (i : ℕ) (value : Option ℕ) (target : ℕ) → has (flat_map some_of (slice_set pointers i value)) target ≡ true → (value ≡ Some target) ⊎ (has (flat_map some_of pointers) target ≡ true)
pointers_led [] i value target h = has_none target h
pointers_led (p ∷ pointers) zero value target h =
    ⊎_elim
    (λ a. inl (only_some value target a))
    (λ b. inr (has_right (some_of p) (flat_map some_of pointers) target b))
    (has_either (some_of value) (flat_map some_of pointers) target h)
pointers_led (p ∷ pointers) (suc i) value target h =
    ⊎_elim
    (λ a. inr (has_left (some_of p) (flat_map some_of pointers) target a))
    (λ b. ⊎_elim (λ e. inl e) (λ r. inr (has_right (some_of p) (flat_map some_of pointers) target r)) (pointers_led pointers i value target b))
    (has_either (some_of p) (flat_map some_of (slice_set pointers i value)) target h)

-- a changed object leads to the new value, and where it led before
pub pointer_led : (o : Object) (i : ℕ) (value : Option ℕ) (target : ℕ) → has (targets (with_pointer o i value)) target ≡ true → (value ≡ Some target) ⊎ (has (targets o) target ≡ true)
pointer_led o i value target h = pointers_led o.pointers i value target h
