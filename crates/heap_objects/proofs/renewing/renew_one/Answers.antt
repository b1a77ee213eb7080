use Rattle.std.proofs.Common.{◌≤◌, is_some, sym, ap, subst, ◌∙◌, arith}
use Rattle.model.specs.Destination.{IsStep}
use Rattle.steps.specs.StepPairs.{step_pair}
use Rattle.heap_objects.specs.Space.{IsSpace, SpaceValue, pool_in}
use Rattle.large_objects.specs.LargeValue.{without_object}
use Rattle.large_objects.specs.PoolBlocks.{ArePoolBlocks}
use Rattle.heap_objects.proofs.LargeReads.{in_use}
use Rattle.heap_objects.specs.Inside.{AreApart}
use Rattle.heap_objects.proofs.Renewals.{dest_is_step, with-others, goes_to, renewed_kept, relabelled, removed_apart}
use Rattle.heap_objects.proofs.renewing.renew_one.Goals as goal

pub returns-in-Some-place-clause-apart : goal.returns-in-Some-place-clause-apart
returns-in-Some-place-clause-apart g c =
    let number = c.args.number.number in
    let shape = c.args.space.now.config.shape in
    let range = c.requires.apart.small.in_range in
    let object = in_use c.args.large.now number c.requires.in_use in
    let changed = c.relabel.ensures.changed object.0 object.1 in
    let to = goes_to c.args.large.now number object.0 object.1 c.step_of.result c.in-Some.generation c.in-Some.step shape c.config.result.shape (step_pair c.dest-at.result) c.step_of.ensures c.in-Some.is c.dest-at.ensures (ap (λ k. k.shape) c.config.ensures.value) in
    let was = c.requires.apart.each number object.0 object.1 in
    let step : IsStep shape (step_pair c.dest-at.result) = rw to.is_dest (dest_is_step shape (object.0.generation, object.0.step) range.some_generation range.some_step was.step) in
    let pool = rw changed at (c.relabel.ensures.pool_blocks (pool_in c.args.space.now) c.requires.apart.pool) in
    rw changed (relabelled c.args.large.now number object.0 object.1 c.args.space.now c.requires.apart c.dest-at.result.generation c.dest-at.result.step step pool)

pub returns-in-Some-place-clause-this : goal.returns-in-Some-place-clause-this
returns-in-Some-place-clause-this g c =
    let number = c.args.number.number in
    let shape = c.args.space.now.config.shape in
    let object = in_use c.args.large.now number c.requires.in_use in
    let changed = c.relabel.ensures.changed object.0 object.1 in
    let to = goes_to c.args.large.now number object.0 object.1 c.step_of.result c.in-Some.generation c.in-Some.step shape c.config.result.shape (step_pair c.dest-at.result) c.step_of.ensures c.in-Some.is c.dest-at.ensures (ap (λ k. k.shape) c.config.ensures.value) in
    let le : object.0.generation ≤ c.args.g = omega (arith, to.generation_is, c.if-generation-g.false) in
    let in_range = (c.requires.numbered object.0 object.1 le).1 in
    let kept = ap is_some (sym c.place.ensures ∙ c.in-Some-place.is) in
    rw changed (renewed_kept c.args.large.now number object.0 object.1 shape c.args.g _ (step_pair c.dest-at.result) le kept to.is_dest)

pub returns-in-Some-place-clause-others : goal.returns-in-Some-place-clause-others
returns-in-Some-place-clause-others g c =
    let object = in_use c.args.large.now c.args.number.number c.requires.in_use in
    let changed = c.relabel.ensures.changed object.0 object.1 in
    λ other ne. rw changed (with-others c.args.large.now c.args.number.number object.0 object.1 _ other ne)

pub returns-in-None-clause-apart : goal.returns-in-None-clause-apart
returns-in-None-clause-apart g c =
    let number = c.args.number.number in
    let object = in_use c.args.large.now number c.requires.in_use in
    let removed = c.remove_large.ensures.removed in
    let others = c.remove_large.ensures.others in
    let small = subst IsSpace others c.free_count-free.ensures.space in
    let pool = subst (λ (s : SpaceValue). ArePoolBlocks (without_object c.args.large.now number) (pool_in s)) others (rw removed at c.remove_large.ensures.pool_blocks) in
    let apart = removed_apart c.args.large.now number object.0 object.1 c.args.space.now c.requires.apart c.remove_large.new.self.free small pool c.remove_large.ensures.free in
    rw removed (subst (λ (s : SpaceValue). AreApart s (without_object c.args.large.now number)) (sym others) apart)
