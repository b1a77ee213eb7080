use Rattle.std.proofs.Common.{◌≡◌, ℕ, ◌<◌, All, Some, refl, sym, ap, subst, ◌∙◌}
use Rattle.std.specs.Prelude.{IfSome, slice_get}
use Rattle.std.specs.Option.{MatchOption}
use Rattle.block_pool.specs.BlockValue.{BlockValue}
use Rattle.pending_queues.specs.PassValue.{position_of}
use Rattle.pending_queues.specs.PendingValue.{SeatValue, after_none, after_take}
use Rattle.scavenge.specs.Handed.{CopiesKeyValue, IsHandedFor}
use Rattle.workers.specs.WorkerSteps.{IsFree}
use Rattle.scavenge.specs.Shown.{WorkspaceValue}
use Rattle.workers_in_threads.specs.SharingValue.{SharingValue}
use Rattle.workers_in_threads.proofs.Handing.{stayed, took, none_index, none_sent, none_taken}
use Rattle.workers_in_threads.proofs.sharing_worker.worker.SharingWorker.take.Goals as goal

pub invariant_of-self-in-None : goal.invariant_of-self-in-None
invariant_of-self-in-None g c =
    let e : c.take.new.seat ≡ after_none c.self.inside.seat c.args.exporter =
    subst (λ o. MatchOption o (c.take.new.seat ≡ after_none c.self.inside.seat c.args.exporter) (λ b. c.take.new.seat ≡ after_take c.self.inside.seat b)) c.in-None.is c.in_ok-take.ensures.taken in
    stayed _ _ _ _ _ c.self.invariant c.self.inside.workspace c.take.new.seat c.take.ensures.of
    (ap (λ (s : SeatValue g.row.A.Denot CopiesKeyValue). s.index) e ∙ none_index c.self.inside.seat c.args.exporter)
    (ap (λ (s : SeatValue g.row.A.Denot CopiesKeyValue). s.sent) e ∙ none_sent c.self.inside.seat c.args.exporter)
    (ap (λ (s : SeatValue g.row.A.Denot CopiesKeyValue). s.taken) e ∙ none_taken c.self.inside.seat c.args.exporter) refl refl refl

pub invariant_of-self-in-Some : goal.invariant_of-self-in-Some
invariant_of-self-in-Some g c =
    let e : c.take.new.seat ≡ after_take c.self.inside.seat c.in-Some.block =
    subst (λ o. MatchOption o (c.take.new.seat ≡ after_none c.self.inside.seat c.args.exporter) (λ b. c.take.new.seat ≡ after_take c.self.inside.seat b)) c.in-Some.is c.in_ok-take.ensures.taken in
    took _ _ _ _ _ c.self.invariant (subst (λ (v : SharingValue g.row.C.Denot g.row.C-Pass.Denot g.row.A.Denot). IsFree v.workspace.worker) (sym c.self.view_is) c.requires.free) c.args.exporter c.in-Some.block
    (subst (λ o. IfSome o (λ (b : BlockValue). b.sent ≡ Some (c.args.exporter, position_of b))) c.in-Some.is c.in_ok-take.ensures.label)
    (subst (λ o. IfSome o (λ b. IsHandedFor c.self.inside.queues.now.key b)) c.in-Some.is c.in_ok-take.ensures.fact)
    (subst (λ o. IfSome o (λ b. c.args.exporter ≡ c.self.inside.seat.index → slice_get c.self.inside.seat.sent (position_of b) ≡ Some b)) c.in-Some.is c.in_ok-take.ensures.own)
    (subst (λ o. IfSome o (λ (b : BlockValue). All (λ (t : BlockValue). (p : ℕ) → t.sent ≡ Some (c.args.exporter, p) → p < position_of b) c.self.inside.seat.taken)) c.in-Some.is c.in_ok-take.ensures.rises)
    c.taken.new.self c.take.new.seat c.take.ensures.of e (ap (λ (w : WorkspaceValue). w.config) c.taken.ensures) (ap (λ (w : WorkspaceValue). w.names) c.taken.ensures) (ap (λ (w : WorkspaceValue). w.worker) c.taken.ensures)
