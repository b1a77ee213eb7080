use Rattle.std.proofs.Common.{All, arith, length, map, subst, sym}
use Rattle.std.proofs.lemmas.List.{length-map}
use Rattle.std.proofs.lemmas.Grind.{common_steps}
use Rattle.pending_queues.specs.Delivered.{IsLabelledBelow}
use Rattle.pending_queues.proofs.Seating.{labels_below}
use Rattle.pending_queues.proofs.seat.PendingSeat.name_takes.Goals as goal

pub loop-label-preserved : goal.loop-label-preserved
loop-label-preserved g c = grind (arith, common_steps)

pub returns-clause-labels : goal.returns-clause-labels
returns-clause-labels g c =
    let inside = c.self.inside in
    let below = labels_below _ _ _ c.self.invariant.logged c.self.invariant.exporters in
    subst (λ v. All (IsLabelledBelow (length v.source.lanes)) v.taken) c.self.view_is
    (subst (λ n. All (IsLabelledBelow n) (map (λ b. b.value) inside.taken.items)) (sym (length-map inside.passes.items (λ p. p.lane))) below)
