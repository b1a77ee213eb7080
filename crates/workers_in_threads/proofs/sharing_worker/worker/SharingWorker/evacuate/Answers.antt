use Rattle.std.proofs.Common.{◌≡◌, ◌≤◌, None, sym, subst, inl, inr}
use Rattle.workers_in_threads.specs.SharingValue.{SharingValue}
use Rattle.workers_in_threads.proofs.Readiness.{open_in, may_look_in, starts_in}
use Rattle.workers_in_threads.proofs.Evacuation.{evacuated_keeps}
use Rattle.workers_in_threads.proofs.sharing_worker.worker.SharingWorker.evacuate.Goals as goal

pub evacuate-requires-clause-open : goal.evacuate-requires-clause-open
evacuate-requires-clause-open g c = open_in _ c.self.invariant

pub evacuate-requires-clause-starts : goal.evacuate-requires-clause-starts
evacuate-requires-clause-starts g c = starts_in _ c.self.invariant

pub evacuate-requires-clause-worker : goal.evacuate-requires-clause-worker
evacuate-requires-clause-worker g c = may_look_in _ c.self.invariant (subst (λ (v : SharingValue g.row.C.Denot g.row.C-Pass.Denot g.row.A.Denot). v.workspace.worker.proposal ≡ None) (sym c.self.view_is) c.requires.proposal)

pub invariant_of-self : goal.invariant_of-self
invariant_of-self g c =
    evacuated_keeps _ _ _ _ _ c.self.invariant (subst (λ (v : SharingValue g.row.C.Denot g.row.C-Pass.Denot g.row.A.Denot). v.workspace.worker.proposal ≡ None) (sym c.self.view_is) c.requires.proposal)
    (g.C.Cells.look_gives c.self.inside.cells) (λ number at outcome. g.C.Cells.race_gives c.self.inside.cells number at outcome c.evacuate.new.cells) c.evacuate.new.cells c.evacuate.new.pass c.evacuate.new.workspace c.evacuate.ensures.keeps.pass
    (subst (λ n. c.self.inside.collection.now.cells ≤ n) (sym c.evacuate.ensures.keeps.limit) c.self.invariant.cells)
    c.evacuate.result (λ is. (c.evacuate.ensures.left is).0) (λ is. (c.evacuate.ensures.none is).0) (λ ne. (c.evacuate.ensures.looks ne).won) (λ ne. (c.evacuate.ensures.looks ne).lasts) (λ is. c.evacuate.ensures.slot (inl is)) (λ is. c.evacuate.ensures.slot (inr is)) c.evacuate.ensures.looked c.evacuate.ensures.raced
