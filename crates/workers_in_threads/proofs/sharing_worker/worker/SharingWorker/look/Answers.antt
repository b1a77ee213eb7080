use Rattle.std.proofs.Common.{◌≡◌, ◌≤◌, None, sym, subst, rules}
use Rattle.workers_in_threads.specs.SharingValue.{SharingValue}
use Rattle.workers_in_threads.proofs.Readiness.{rooms_in, numbers_in, can_look, open_in, may_look_in}
use Rattle.workers_in_threads.specs.Sharing as sharing
use Rattle.workers_in_threads.proofs.Looked.{look_keeps, looks, some_slot}
use Rattle.workers_in_threads.proofs.sharing_worker.worker.SharingWorker.look.Goals as goal

pub look-requires-clause-open : goal.look-requires-clause-open
look-requires-clause-open g c = open_in _ c.self.invariant

pub look-requires-clause-worker : goal.look-requires-clause-worker
look-requires-clause-worker g c = may_look_in _ c.self.invariant (subst (λ (v : SharingValue g.row.C.Denot g.row.C-Pass.Denot g.row.A.Denot). v.workspace.worker.proposal ≡ None) (sym c.self.view_is) c.requires.proposal)

pub look-requires-clause-room : goal.look-requires-clause-room
look-requires-clause-room g c = rooms_in _ c.self.invariant

pub look-requires-clause-draws : goal.look-requires-clause-draws
look-requires-clause-draws g c = record {
  seat = search rules;
  numbers = numbers_in _ c.self.invariant;
}

pub invariant_of-self : goal.invariant_of-self
invariant_of-self g c =
    look_keeps _ _ _ _ g.C.Cells.at_home _ c.self.invariant c.look.new.cells c.look.new.pass c.look.new.seat c.look.ensures.keeps.pass
    (subst (λ cells. c.self.inside.collection.now.cells ≤ g.C.Cells.limit cells) (sym c.look.ensures.looks.cells) c.self.invariant.cells) c.look.ensures.draws.seat c.look.ensures.looks.won c.look.ensures.looks.lasts
    (g.C.Cells.look_gives c.self.inside.cells) c.look.new.workspace c.look.result
    (λ is. can_look _ c.self.invariant (subst (λ (v : SharingValue g.row.C.Denot g.row.C-Pass.Denot g.row.A.Denot). v.workspace.worker.proposal ≡ None) (sym c.self.view_is) c.requires.proposal) (some_slot _ c.look.result is c.look.ensures.none.1))
    c.look.ensures.ok c.look.ensures.nothing (λ is. (c.look.ensures.full is).0.out) c.look.ensures.memory c.look.ensures.err

pub returns-clause-ok : goal.returns-clause-ok
returns-clause-ok g c = λ is.
    subst (λ (v : SharingValue g.row.C.Denot g.row.C-Pass.Denot g.row.A.Denot). sharing.Looks v (let next : SharingValue g.row.C.Denot g.row.C-Pass.Denot g.row.A.Denot = record { heap = c.self.inside.heap.now; collection = c.self.inside.collection.now; claims = c.self.inside.claims.now; queues = c.self.inside.queues.now; workers = c.self.inside.workers; cells = c.look.new.cells; pass = c.look.new.pass; draws = c.look.new.seat; seat = c.self.inside.seat; workspace = c.look.new.workspace } in next)) c.self.view_is
    (looks _ _ _ _ g.C.Cells.at_home _ c.self.invariant c.look.new.cells c.look.new.pass c.look.new.seat c.look.ensures.keeps.pass
    (subst (λ cells. c.self.inside.collection.now.cells ≤ g.C.Cells.limit cells) (sym c.look.ensures.looks.cells) c.self.invariant.cells) c.look.ensures.draws.seat c.look.ensures.looks.won
    (g.C.Cells.look_gives c.self.inside.cells)
    (can_look _ c.self.invariant (subst (λ (v : SharingValue g.row.C.Denot g.row.C-Pass.Denot g.row.A.Denot). v.workspace.worker.proposal ≡ None) (sym c.self.view_is) c.requires.proposal) (some_slot _ c.look.result is c.look.ensures.none.1))
    c.look.new.workspace (c.look.ensures.ok is)).1
