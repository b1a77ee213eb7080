use Rattle.std.proofs.Common.{◌≡◌, ap, subst, ◌∙◌, arith}
use Rattle.std.specs.Prelude.{IfOk, IfSome}
use Rattle.forwarding.specs.Words.{WordPassValue, fresh_pass}
use Rattle.steps.specs.declared.heap_values.collection.Settled.{Settled}
use Rattle.workers_in_threads.specs.Reports.{ReportsApart, IsShortOfBlocksFor, IsStuckApart}
use Rattle.workers_in_threads.proofs.Back.{workspaces_count}
use Rattle.collector.proofs.ByThreads.{at_all, each_pass, were_settled}
use Rattle.collector.proofs.apart.with_words.Goals as goal

pub scavenged_apart-requires-clause-passes : goal.scavenged_apart-requires-clause-passes
scavenged_apart-requires-clause-passes g c κs within = at_all (λ p. p ≡ fresh_pass c.in_ok-cells.cells.id) (λ p. p.id ≡ c.in_ok-cells.cells.id) (λ p e. ap (λ (q : WordPassValue). q.id) e) c.in_ok-cells.passes.items c.in_ok-cells.ensures.fresh

pub settle-settled-requires-clause-passes : goal.settle-settled-requires-clause-passes
settle-settled-requires-clause-passes g c = each_pass _ _ _ _ _ _ _ _ _ _ _ _ _ c.in_ok-ending.ensures (λ p. p.id ≡ c.in_ok-cells.cells.id) (λ i p h. h)

pub concluded-requires-clause-some : goal.concluded-requires-clause-some
concluded-requires-clause-some g c κs within = omega (arith, workspaces_count _ _ _ _ _ _ _ _ _ _ _ _ _ c.in_ok-ending.ensures, c.in_ok-cells.ensures.many, c.requires.some)

pub concluded-requires-clause-few : goal.concluded-requires-clause-few
concluded-requires-clause-few g c κs within = omega (arith, workspaces_count _ _ _ _ _ _ _ _ _ _ _ _ _ c.in_ok-ending.ensures, c.in_ok-cells.ensures.many, c.requires.few)

pub concluded-requires-clause-settled : goal.concluded-requires-clause-settled
concluded-requires-clause-settled g c κs within =
    were_settled _ _ _ _ _ _ _ _ _ _ _ _ c.in_ok-cells.cells c.in_ok-ending.field-0.passes.items c.settle-settled.result c.in_ok-ending.ensures c.in_ok-cells.cells.count (c.in_ok-cells.ensures.cells.0 ∙ c.cells.ensures) c.settle-settled.ensures.settled c.settle-settled.ensures.many
    (λ e. absurd (c.settle-settled.ensures.never_unsettled e))

pub returns-clause-apart : goal.returns-clause-apart
returns-clause-apart g c =
    subst (λ m. IfOk c.concluded.result (λ o. IfSome o (λ (s : Settled g.row.A.Denot). ReportsApart c.args.heap.now c.args.collection.generation m s.workers.items s.deliveries.items)))
    (workspaces_count _ _ _ _ _ _ _ _ _ _ _ _ _ c.in_ok-ending.ensures ∙ c.in_ok-cells.ensures.many) c.concluded.ensures.apart

pub returns-clause-full : goal.returns-clause-full
returns-clause-full g c = λ e. subst (IsShortOfBlocksFor c.args.heap.now c.args.collection.generation) (workspaces_count _ _ _ _ _ _ _ _ _ _ _ _ _ c.in_ok-ending.ensures ∙ c.in_ok-cells.ensures.many) (c.concluded.ensures.full e)

pub returns-clause-stuck : goal.returns-clause-stuck
returns-clause-stuck g c = λ e. subst (IsStuckApart c.args.heap.now c.args.collection.generation) (workspaces_count _ _ _ _ _ _ _ _ _ _ _ _ _ c.in_ok-ending.ensures ∙ c.in_ok-cells.ensures.many) (c.concluded.ensures.stuck e)
