-- Roots and fields renamed, and fields written, one after the other.
use Rattle.std.proofs.Common.{◌≡◌, ℕ, zero, suc, ◌+◌, ◌<◌, false, cond, List, [], ◌∷◌, ◌++◌, length, map, take, get_or, Option, Some, None, refl, sym, ap, subst, ◌∙◌, arith, ⊎_elim}
use Rattle.std.proofs.lemmas.Bool.{cases_eq, eq-eqb, ne_eqb}
use Rattle.std.proofs.lemmas.List.{take_more, map-append}
use Rattle.std.proofs.lemmas.List.Elements.{All-head, All-tail}
use Rattle.std.specs.Prelude.{All, IsSomeAnd, nat_eq}
use Rattle.std.specs.Option.{option_map}
use Rattle.std.specs.FinMap.{get, insert}
use Rattle.model.specs.Graph.{Object, with_pointer}
use Rattle.model.proofs.NatMap.{get-insert_same, get-insert_other}
use Rattle.steps.specs.CollectionValue.{SlotValue, root_slot, field_slot}
use Rattle.heap_objects.specs.Objects.{ObjectsValue}
use Rattle.heap.specs.Moves.{roots_by, writes_by, with_writes}
use Rattle.heap.proofs.FieldsMoved.{with_writes-append, with_writes-length}

-- what holds of each of a list holds of this one
pub all_at : {X Y : Type 0} (P : Y → Type 0) (f : X → Y) (xs : List X) (i : ℕ) (x : X) → x ≡ get_or xs i x → i < length xs → All P (map f xs) → P (f x)
all_at P f [] i x is lt all = absurd (omega (arith, lt))
all_at P f (y ∷ xs) zero x is lt all = subst (λ z. P (f z)) (sym is) (All-head P (f y) (map f xs) all)
all_at P f (y ∷ xs) (suc i) x is lt all = all_at P f xs i x is (omega (arith, lt)) (All-tail P (f y) (map f xs) all)

pub take_next : {X Y : Type 0} (f : X → Y) (xs : List X) (i : ℕ) (x : X) → x ≡ get_or xs i x → i < length xs → map f (take (i + 1) xs) ≡ map f (take i xs) ++ f x ∷ []
take_next f xs i x is lt = ap (map f) (take_more xs i x lt) ∙ map-append f (take i xs) (get_or xs i x ∷ []) ∙ ap (λ y. map f (take i xs) ++ f y ∷ []) (sym is)

pub writes-append : (f : ℕ → ℕ) (xs ys : List SlotValue) → writes_by f (xs ++ ys) ≡ writes_by f xs ++ writes_by f ys
writes-append f [] ys = refl
writes-append f (root_slot root target ∷ xs) ys = writes-append f xs ys
writes-append f (field_slot holder field target ∷ xs) ys = ap (λ ws. (holder, (field, f target)) ∷ ws) (writes-append f xs ys)

pub roots-append : (f : ℕ → ℕ) (xs ys : List SlotValue) → roots_by f (xs ++ ys) ≡ roots_by f xs ++ roots_by f ys
roots-append f [] ys = refl
roots-append f (root_slot root target ∷ xs) ys = ap (λ es. (root, f target) ∷ es) (roots-append f xs ys)
roots-append f (field_slot holder field target ∷ xs) ys = roots-append f xs ys

some_holder : (P : Object → Type 0) (o : Option Object) → IsSomeAnd o P → (x : Object) × (o ≡ Some x) × P x
some_holder P None h = absurd h
some_holder P (Some x) h = (x, refl, h)

module _ (old cur : ObjectsValue) (ws : List (ℕ × (ℕ × ℕ))) (w : ℕ × (ℕ × ℕ)) (objects : (name : ℕ) → get cur.objects name ≡ option_map (with_writes ws name) (get old.objects name))
    (has : IsSomeAnd (get old.objects w.0) (λ o. w.1.0 < length o.pointers)) where
  pub holder : (x : Object) × (get old.objects w.0 ≡ Some x) × (w.1.0 < length x.pointers)
  holder = some_holder (λ o. w.1.0 < length o.pointers) (get old.objects w.0) has

  now : get cur.objects w.0 ≡ Some (with_writes ws w.0 holder.0)
  now = objects w.0 ∙ ap (option_map (with_writes ws w.0)) holder.1

  pub can_write : IsSomeAnd (get cur.objects w.0) (λ o. w.1.0 < length o.pointers)
  can_write = subst (λ o. IsSomeAnd o (λ x. w.1.0 < length x.pointers)) (sym now) (omega (arith, holder.2, with_writes-length ws w.0 holder.0))

  module _ (new : ObjectsValue) (set : (o : Object) → get cur.objects w.0 ≡ Some o → new ≡ record cur { objects = insert cur.objects w.0 (with_pointer o w.1.0 (Some w.1.1)) }) where
    pub change : new ≡ record cur { objects = insert cur.objects w.0 (with_pointer (with_writes ws w.0 holder.0) w.1.0 (Some w.1.1)) }
    change = set (with_writes ws w.0 holder.0) now

    pub now_written : (name : ℕ) → get new.objects name ≡ option_map (with_writes (ws ++ w ∷ []) name) (get old.objects name)
    now_written name = ap (λ s. get s.objects name) change ∙ ⊎_elim
        (λ e.
        ap (get (insert cur.objects w.0 (with_pointer (with_writes ws w.0 holder.0) w.1.0 (Some w.1.1)))) e
        ∙ get-insert_same cur.objects w.0 (with_pointer (with_writes ws w.0 holder.0) w.1.0 (Some w.1.1))
        ∙ ap Some (sym (with_writes-append ws w w.0 holder.0 ∙ ap (λ b. cond b (with_pointer (with_writes ws w.0 holder.0) w.1.0 (Some w.1.1)) (with_writes ws w.0 holder.0)) (eq-eqb w.0 w.0 refl)))
        ∙ sym (ap (λ n. option_map (with_writes (ws ++ w ∷ []) n) (get old.objects n)) e ∙ ap (option_map (with_writes (ws ++ w ∷ []) w.0)) holder.1))
        (λ ne.
        get-insert_other cur.objects w.0 _ name ne ∙ objects name ∙ same (get old.objects name) (ne_eqb w.0 name (λ e. ne (sym e))))
        (cases_eq name w.0)
      where
        same : (o : Option Object) → nat_eq w.0 name ≡ false → option_map (with_writes ws name) o ≡ option_map (with_writes (ws ++ w ∷ []) name) o
        same None other = refl
        same (Some x) other = ap Some (sym (with_writes-append ws w name x ∙ ap (λ b. cond b (with_pointer (with_writes ws name x) w.1.0 (Some w.1.1)) (with_writes ws name x)) other))
