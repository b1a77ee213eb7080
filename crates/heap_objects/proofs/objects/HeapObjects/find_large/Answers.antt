use Rattle.std.proofs.Common.{◌≤◌, arith, sym, ◌∙◌}
use Rattle.heap_objects.proofs.Finds.{never_none, shown_some, step_large, not_young, young_here, numbered_here}
use Rattle.heap_objects.proofs.objects.HeapObjects.find_large.Goals as goal

pub unreachable-requires : goal.unreachable-requires
unreachable-requires g c =
    let there = rw (← c.self.view_is) at c.requires.there in
    never_none _ _ c.self.invariant c.args.number.number c.get.result c.in_default.is c.get.ensures.raw there

pub returns-then-generation-g-clause-object : goal.returns-then-generation-g-clause-object
returns-then-generation-g-clause-object g c = rw (← c.self.view_is) (shown_some _ _ c.self.invariant c.args.number.number c.in-Some.object c.get.result c.in-Some.is c.get.ensures.raw)

pub returns-then-generation-g-clause-step : goal.returns-then-generation-g-clause-step
returns-then-generation-g-clause-step g c = rw (← c.self.view_is) (step_large _ _ c.self.invariant c.args.number.number _ (sym c.in-Some-step_of.is ∙ c.step_of.ensures))

pub returns-then-generation-g-clause-number : goal.returns-then-generation-g-clause-number
returns-then-generation-g-clause-number g c = rw (← c.self.view_is) (not_young _ _ c.self.invariant c.args.g c.args.number.number c.in-Some-step_of.generation c.in-Some-step_of.step (sym c.step_of.ensures ∙ c.in-Some-step_of.is) c.if-generation-g.true)

pub bounds-large-number : goal.bounds-large-number
bounds-large-number g c =
    let numbering = rw (← c.self.view_is) at c.requires.numbering in
    let le : c.in-Some-step_of.generation ≤ c.args.g = omega (arith, c.if-generation-g.false) in
    rw c.large.ensures (numbering.covers_large c.args.number.number (young_here _ _ c.self.invariant c.args.g c.args.number.number c.in-Some-step_of.generation c.in-Some-step_of.step (sym c.step_of.ensures ∙ c.in-Some-step_of.is) le))

pub returns-clause-object : goal.returns-clause-object
returns-clause-object g c = rw (← c.self.view_is) (shown_some _ _ c.self.invariant c.args.number.number c.in-Some.object c.get.result c.in-Some.is c.get.ensures.raw)

pub returns-clause-step : goal.returns-clause-step
returns-clause-step g c = rw (← c.self.view_is) (step_large _ _ c.self.invariant c.args.number.number _ (sym c.in-Some-step_of.is ∙ c.step_of.ensures))

pub returns-clause-number : goal.returns-clause-number
returns-clause-number g c =
    let numbering = rw (← c.self.view_is) at c.requires.numbering in
    let le : c.in-Some-step_of.generation ≤ c.args.g = omega (arith, c.if-generation-g.false) in
    let is = sym c.step_of.ensures ∙ c.in-Some-step_of.is in
    rw (← c.self.view_is, c.large.ensures) (
      young_here _ _ c.self.invariant c.args.g c.args.number.number c.in-Some-step_of.generation c.in-Some-step_of.step is le,
      numbered_here _ _ c.self.invariant c.args.g c.args.number.number c.in-Some-step_of.generation c.in-Some-step_of.step is c.args.numbering.now numbering le,
    )
