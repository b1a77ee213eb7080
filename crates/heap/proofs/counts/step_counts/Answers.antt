use Rattle.std.proofs.Common.{map, length, ap, ◌∙◌, arith}
use Rattle.std.specs.FinMap.{values}
use Rattle.model.specs.Census.{step_count}
use Rattle.model.specs.Destination.{all_steps}
use Rattle.steps.specs.StepPairs.{step_pair}
use Rattle.heap.proofs.counts.step_counts.Goals as goal

pub counts_of-requires : goal.counts_of-requires
counts_of-requires g c = omega (arith, ap length c.as_slice.ensures.value, c.all_steps-steps.ensures.few)

pub returns : goal.returns
returns g c =
    let each = step_count c.args.objects.now.config.block_words (values c.args.objects.now.objects) in
    c.counts_of.ensures
    ∙ ap (λ ss. map each (map step_pair ss)) c.as_slice.ensures.value
    ∙ ap (map each) (c.all_steps-steps.ensures.steps ∙ ap (λ k. all_steps k.shape) c.config.ensures.value)
