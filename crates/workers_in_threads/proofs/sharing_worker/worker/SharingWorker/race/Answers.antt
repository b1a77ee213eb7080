use Rattle.std.proofs.Common.{◌≤◌, sym, subst}
use Rattle.std.specs.Prelude.{IsSome}
use Rattle.workers_in_threads.specs.SharingValue.{SharingValue}
use Rattle.workers_in_threads.proofs.Readiness.{young_in, may_race_in}
use Rattle.workers_in_threads.proofs.Raced.{race_keeps}
use Rattle.workers_in_threads.proofs.sharing_worker.worker.SharingWorker.race.Goals as goal

pub race-requires-clause-young : goal.race-requires-clause-young
race-requires-clause-young g c = young_in _ c.self.invariant (subst (λ (v : SharingValue g.row.C.Denot g.row.C-Pass.Denot g.row.A.Denot). IsSome v.workspace.worker.proposal) (sym c.self.view_is) c.requires.proposal)

pub race-requires-clause-worker : goal.race-requires-clause-worker
race-requires-clause-worker g c = may_race_in _ c.self.invariant (subst (λ (v : SharingValue g.row.C.Denot g.row.C-Pass.Denot g.row.A.Denot). IsSome v.workspace.worker.proposal) (sym c.self.view_is) c.requires.proposal)

pub invariant_of-self : goal.invariant_of-self
invariant_of-self g c =
    race_keeps _ _ _ _ _ c.self.invariant (subst (λ (v : SharingValue g.row.C.Denot g.row.C-Pass.Denot g.row.A.Denot). IsSome v.workspace.worker.proposal) (sym c.self.view_is) c.requires.proposal)
    (λ number at outcome. g.C.Cells.race_gives c.self.inside.cells number at outcome c.race.new.cells) c.race.new.cells c.race.new.pass c.race.ensures.keeps.pass c.race.new.workspace c.race.result
    (subst (λ n. c.self.inside.collection.now.cells ≤ n) (sym c.race.ensures.keeps.limit) c.self.invariant.cells) c.race.ensures.ok c.race.ensures.err
