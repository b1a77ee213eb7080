-- What the calls of large objects show.
use Rattle.std.proofs.Common.{◌≡◌, ℕ, Option, Some, None, refl, sym, ap}
use Rattle.std.specs.Prelude.{IsSome}
use Rattle.std.specs.Option.{option_map}
use Rattle.model.proofs.Options.{some_is, some_not_none}
use Rattle.layout.specs.ObjectRef.{raw_of}
use Rattle.layout.specs.declared.object.ObjectRef.{ObjectRef}
use Rattle.large_objects.specs.LargeValue.{LargeObject, LargeValue, large_at, InUse}

-- the generation and the step of a large object
abbrev label : LargeObject → ℕ × ℕ
label o = (o.generation, o.step)

pub label_none : (x : Option LargeObject) → option_map label x ≡ None → x ≡ None
label_none None e = refl
label_none (Some o) e = absurd (some_not_none e)

pub label_some : (x : Option LargeObject) (generation step : ℕ) → option_map label x ≡ Some (generation, step) → (o : LargeObject) × (x ≡ Some o) × (o.generation ≡ generation)
label_some None generation step e = absurd (some_not_none (sym e))
label_some (Some o) generation step e = (o, refl, ap (λ p. p.0) (some_is e))

pub shown_is : (shown : Option ObjectRef) (o : LargeObject) → option_map raw_of shown ≡ Some o.raw → (object : ObjectRef) × (shown ≡ Some object) × (raw_of object ≡ o.raw)
shown_is None o e = absurd (some_not_none (sym e))
shown_is (Some object) o e = (object, refl, some_is e)

pub in_use : (large : LargeValue) (number : ℕ) → InUse large number → (o : LargeObject) × (large_at large number ≡ Some o)
in_use large number some = go (large_at large number) refl some
  where
    go : (x : Option LargeObject) → large_at large number ≡ x → IsSome x → (o : LargeObject) × (large_at large number ≡ Some o)
    go None is h = absurd (cc)
    go (Some o) is h = (o, is)
