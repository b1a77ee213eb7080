use Rattle.std.proofs.Common.{arith, ap, sym, ◌∙◌}
use Rattle.std.specs.Option.{option_map}
use Rattle.steps.specs.StepPairs.{stands_at}
use Rattle.heap_objects.proofs.Sides.{at_small, at_large}
use Rattle.heap_objects.proofs.ObjectReads.{stands_large}
use Rattle.heap_objects.proofs.objects.HeapObjects.step_of.Goals as goal

pub returns-in-Small : goal.returns-in-Small
returns-in-Small g c =
    let at = c.in-Small.field-0 in
    let stands = rw c.in-Small.is at c.step_of.ensures in
    rw (← c.self.view_is, c.in-Small.is) (stands ∙ ap (option_map stands_at) (sym (at_small c.self.inside.space.objects c.self.inside.large.slots at.block at.offset (omega (arith, at.block_in_range)) (omega (arith, at.offset_in_range)))))

pub returns-in-Some : goal.returns-in-Some
returns-in-Some g c =
    rw (← c.self.view_is, c.in-Large.is) (sym c.in-Some.is ∙ c.step_of-in-Large.ensures ∙ stands_large _ ∙ ap (option_map stands_at) (sym (at_large c.self.inside.space c.self.invariant.small c.self.inside.large c.in-Large.number.number)))

pub returns-in-None : goal.returns-in-None
returns-in-None g c =
    rw (← c.self.view_is, c.in-Large.is) (sym c.in-None.is ∙ c.step_of-in-Large.ensures ∙ stands_large _ ∙ ap (option_map stands_at) (sym (at_large c.self.inside.space c.self.invariant.small c.self.inside.large c.in-Large.number.number)))
