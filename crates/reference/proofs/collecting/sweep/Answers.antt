use Rattle.std.proofs.Common.{set, ap, ◌∙◌}
use Rattle.model.specs.Reached.{has}
use Rattle.model.specs.Store.{kept_or_gone}
use Rattle.reference.proofs.CollectLemmas.{sweep_more}
use Rattle.reference.proofs.collecting.sweep.Goals as goal

pub loop-name-preserved : goal.loop-name-preserved
loop-name-preserved g c =
    ap (λ y. set c.loop-name.objects c.loop-name.name y) (c.kept_or_gone.ensures ∙ ap (λ b. kept_or_gone c.args.config.now.shape c.args.g b c.take.result) c.has.ensures ∙ ap (kept_or_gone c.args.config.now.shape c.args.g (has c.args.live.now c.loop-name.name)) c.take.ensures.value)
    ∙ sweep_more c.args.config.now.shape c.args.g c.args.live.now c.args.objects.now c.loop-name.objects c.loop-name.name c.index-objects-name.result c.loop-name-test.true c.loop-name.invariant
