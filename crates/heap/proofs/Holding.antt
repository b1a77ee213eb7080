-- Objects with a pointer to a younger one.
use Rattle.std.proofs.Common.{◌≡◌, ℕ, zero, suc, ◌<◌, Bool, true, false, cond, List, [], ◌∷◌, Option, Some, None, refl, sym, ap, ◌∙◌, arith, ⊎_elim}
use Rattle.std.proofs.lemmas.Bool.{true≢false, or_cases, or_left, or_right}
use Rattle.std.proofs.lemmas.Bool.Decides.{nat_tests}
use Rattle.std.specs.Prelude.{slice_get, nat_lt, nat_eq, option_and_then}
use Rattle.std.specs.Option.{option_map_or}
use Rattle.std.specs.List.{list_any}
use Rattle.model.specs.Graph.{Graph, Object, object_at}
use Rattle.model.specs.Census.{points_to, points_younger}
use Rattle.model.proofs.Options.{some_is, some_not_none}
use Rattle.steps.specs.Remembered.{is_holder}

record Passes {X : Type 0} (p : X → Bool) (xs : List X) : Type 0 where
  pub place : ℕ
  pub item : X
  pub there : slice_get xs place ≡ Some item
  pub passes : p item ≡ true

any_at : {X : Type 0} (p : X → Bool) (xs : List X) → list_any p xs ≡ true → Passes p xs
any_at p [] h = absurd (true≢false (sym h))
any_at p (x ∷ xs) h =
    ⊎_elim
    (λ e. record { place = 0; item = x; there = refl; passes = e })
    (λ r. let rest = any_at p xs r in record { place = suc rest.place; item = rest.item; there = rest.there; passes = rest.passes })
    (or_cases _ _ h)

pub at_any : {X : Type 0} (p : X → Bool) (xs : List X) (i : ℕ) (x : X) → slice_get xs i ≡ Some x → p x ≡ true → list_any p xs ≡ true
at_any p [] i x is passes = absurd (some_not_none (sym is))
at_any p (y ∷ xs) zero x is passes = or_left _ _ (ap p (some_is is) ∙ passes)
at_any p (y ∷ xs) (suc i) x is passes = or_right _ _ (at_any p xs i x is passes)

-- a pointer of an object leads to a younger one
pub record PointsTo (object : ℕ → Option Object) (o : Object) : Type 0 where
  pub field : ℕ
  pub target : ℕ
  pub pointer : slice_get o.pointers field ≡ Some (Some target)
  pub other : Object
  pub there : object target ≡ Some other
  pub younger : other.generation < o.generation

module _ (object : ℕ → Option Object) (o : Object) where
  pub younger_from : points_younger object o ≡ true → PointsTo object o
  younger_from h = let found = any_at _ o.pointers h in go found.place found.item found.there found.passes
    where
      at : (i target : ℕ) → slice_get o.pointers i ≡ Some (Some target) → (t : Option Object) → object target ≡ t → option_map_or (λ x. nat_lt x.generation o.generation) t false ≡ true → PointsTo object o
      at i target is None there e = absurd (true≢false (sym e))
      at i target is (Some x) there e = record { field = i; target = target; pointer = is; other = x; there = there; younger = grind (arith, nat_tests, e) }

      go : (i : ℕ) (pointer : Option ℕ) → slice_get o.pointers i ≡ Some pointer → points_to (λ x. nat_lt x.generation o.generation) object pointer ≡ true → PointsTo object o
      go i None is e = absurd (true≢false (sym e))
      go i (Some target) is e = at i target is (object target) refl e

  pub younger_is : PointsTo object o → points_younger object o ≡ true
  younger_is found =
      let lower : nat_lt found.other.generation o.generation ≡ true = grind (arith, nat_tests, found.younger) in
      at_any (points_to (λ x. nat_lt x.generation o.generation) object) o.pointers found.field (Some found.target) found.pointer (ap (λ t. option_map_or (λ x. nat_lt x.generation o.generation) t false) found.there ∙ lower)

pub holder_is : (graph : Graph) (name : ℕ) (o : Object) → object_at graph name ≡ Some o → points_younger (object_at graph) o ≡ true → is_holder graph o.generation name ≡ true
holder_is graph name o there younger =
    let same : nat_eq o.generation o.generation ≡ true = grind (arith, nat_tests) in
    ap (λ found. option_map_or (points_younger (object_at graph)) (option_and_then (λ x. cond (nat_eq x.generation o.generation) (Some x) None) found) false) there
    ∙ ap (λ b. option_map_or (points_younger (object_at graph)) (cond b (Some o) None) false) same ∙ younger
