use Rattle.std.proofs.Common.{◌≡◌, List, Option, Result, Err, length, sym, ap, subst, ◌∙◌, arith}
use Rattle.layout.specs.declared.place.Place.{Place}
use Rattle.forwarding.specs.declared.cells.forwards.SettleError.{SettleError}
use Rattle.forwarding.specs.declared.cells.forwards.SettleError.TheVariants.{NoMemory, Unsettled}
use Rattle.std.specs.Prelude.{IfOk, IfSome}
use Rattle.forwarding.specs.Boxed.{names_of}
use Rattle.forwarding.specs.Noted.{IsPassOf}
use Rattle.forwarding.proofs.Fresh.{numbered, unused}
use Rattle.steps.specs.declared.heap_values.collection.Settled.{Settled}
use Rattle.workers_in_threads.specs.Reports.{ReportsApart, IsShortOfBlocksFor, IsStuckApart}
use Rattle.workers_in_threads.proofs.Back.{workspaces_count}
use Rattle.collector.proofs.ByThreads.{apart_by_number, each_pass, passes_at, were_settled}
use Rattle.collector.proofs.apart.with_boxes.Goals as goal

pub scavenged_apart-requires-clause-passes : goal.scavenged_apart-requires-clause-passes
scavenged_apart-requires-clause-passes g c κs within = numbered c.in_ok-cells.cells c.args.n c.in_ok-cells.passes.items c.in_ok-cells.ensures.passes

pub scavenged_apart-requires-clause-won_none : goal.scavenged_apart-requires-clause-won_none
scavenged_apart-requires-clause-won_none g c κs within = unused c.in_ok-cells.cells c.args.n c.in_ok-cells.passes.items c.in_ok-cells.ensures.passes

pub settle-settled-requires-clause-passes : goal.settle-settled-requires-clause-passes
settle-settled-requires-clause-passes g c = each_pass _ _ _ _ _ _ _ _ _ _ _ _ _ c.in_ok-ending.ensures (IsPassOf (names_of c.cells.inside.cells.items)) (λ i p h. h.of ∙ sym c.cells.view_is)

pub settle-settled-requires-clause-apart : goal.settle-settled-requires-clause-apart
settle-settled-requires-clause-apart g c = apart_by_number c.in_ok-cells.cells c.in_ok-ending.field-0.passes.items (passes_at _ _ _ _ _ _ _ _ _ _ _ _ _ c.in_ok-ending.ensures)

pub concluded-requires-clause-some : goal.concluded-requires-clause-some
concluded-requires-clause-some g c κs within = omega (arith, workspaces_count _ _ _ _ _ _ _ _ _ _ _ _ _ c.in_ok-ending.ensures, c.in_ok-cells.ensures.many, c.requires.some)

pub concluded-requires-clause-few : goal.concluded-requires-clause-few
concluded-requires-clause-few g c κs within = omega (arith, workspaces_count _ _ _ _ _ _ _ _ _ _ _ _ _ c.in_ok-ending.ensures, c.in_ok-cells.ensures.many, c.requires.few)

pub concluded-requires-clause-settled : goal.concluded-requires-clause-settled
concluded-requires-clause-settled g c κs within =
    were_settled _ _ _ _ _ _ _ _ _ _ _ _ c.in_ok-cells.cells c.in_ok-ending.field-0.passes.items c.settle-settled.result c.in_ok-ending.ensures (length (names_of c.cells.inside.cells.items)) (ap length c.cells.view_is ∙ c.in_ok-cells.ensures.cells ∙ c.cells-count.ensures) c.settle-settled.ensures.settled c.settle-settled.ensures.many
    (λ e. c.settle-settled.ensures.won_once (λ x. absurd (let q : ◌≡◌ {A = Result (List (Option Place)) SettleError} (Err Unsettled) (Err NoMemory) = sym e ∙ x in cc)))

pub returns-clause-apart : goal.returns-clause-apart
returns-clause-apart g c =
    subst (λ m. IfOk c.concluded.result (λ o. IfSome o (λ (s : Settled g.row.A.Denot). ReportsApart c.args.heap.now c.args.collection.generation m s.workers.items s.deliveries.items)))
    (workspaces_count _ _ _ _ _ _ _ _ _ _ _ _ _ c.in_ok-ending.ensures ∙ c.in_ok-cells.ensures.many) c.concluded.ensures.apart

pub returns-clause-full : goal.returns-clause-full
returns-clause-full g c = λ e. subst (IsShortOfBlocksFor c.args.heap.now c.args.collection.generation) (workspaces_count _ _ _ _ _ _ _ _ _ _ _ _ _ c.in_ok-ending.ensures ∙ c.in_ok-cells.ensures.many) (c.concluded.ensures.full e)

pub returns-clause-stuck : goal.returns-clause-stuck
returns-clause-stuck g c = λ e. subst (IsStuckApart c.args.heap.now c.args.collection.generation) (workspaces_count _ _ _ _ _ _ _ _ _ _ _ _ _ c.in_ok-ending.ensures ∙ c.in_ok-cells.ensures.many) (c.concluded.ensures.stuck e)
