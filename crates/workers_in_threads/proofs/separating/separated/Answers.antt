use Rattle.std.proofs.Common.{◌≡◌, length, subst, arith}
use Rattle.workers.specs.Joined.{Each}
use Rattle.workers_in_threads.specs.declared.kit.Brought.{Brought}
use Rattle.workers_in_threads.specs.declared.sharing_worker.resting.Outcome.TheVariants.{Ended}
use Rattle.workers_in_threads.specs.CameBack.{IsFirstRefusal, IsLeftEarly}
use Rattle.workers_in_threads.proofs.Taking.{begun, moved, finished}
use Rattle.workers_in_threads.proofs.separating.separated.Goals as goal

pub loop-worker-init : goal.loop-worker-init
loop-worker-init g c =
    let all = c.into_iter-worker-iterator.ensures.into_iter_gives.0 in record {
      passes = begun (λ (r : Brought g.row.P.Denot g.row.A.Denot). r.pass) _ _ _ c.in_ok-passes.ensures.items all;
      draws = begun (λ (r : Brought g.row.P.Denot g.row.A.Denot). r.draws) _ _ _ c.in_ok-draws.ensures.items all;
      seats = begun (λ (r : Brought g.row.P.Denot g.row.A.Denot). r.seat) _ _ _ c.in_ok-seats.ensures.items all;
      workspaces = begun (λ (r : Brought g.row.P.Denot g.row.A.Denot). r.workspace) _ _ _ c.in_ok-workspaces.ensures.items all;
    }

pub loop-worker-preserved : goal.loop-worker-preserved
loop-worker-preserved g c =
    let step = c.in-Some.ensures.steps.0 in record {
      passes = rw c.in_ok-push.ensures.items (moved (λ (r : Brought g.row.P.Denot g.row.A.Denot). r.pass) _ c.in-Some.worker _ _ _ step c.loop-worker.invariant.passes);
      draws = rw c.in_ok-push-2.ensures.items (moved (λ (r : Brought g.row.P.Denot g.row.A.Denot). r.draws) _ c.in-Some.worker _ _ _ step c.loop-worker.invariant.draws);
      seats = rw c.in_ok-push-3.ensures.items (moved (λ (r : Brought g.row.P.Denot g.row.A.Denot). r.seat) _ c.in-Some.worker _ _ _ step c.loop-worker.invariant.seats);
      workspaces = rw c.in_ok-push-4.ensures.items (moved (λ (r : Brought g.row.P.Denot g.row.A.Denot). r.workspace) _ c.in-Some.worker _ _ _ step c.loop-worker.invariant.workspaces);
    }

pub loop-worker-preserved-in_ok-push-4 : goal.loop-worker-preserved-in_ok-push-4
loop-worker-preserved-in_ok-push-4 g c =
    let step = c.in-Some.ensures.steps.0 in record {
      passes = rw c.in_ok-push.ensures.items (moved (λ (r : Brought g.row.P.Denot g.row.A.Denot). r.pass) _ c.in-Some.worker _ _ _ step c.loop-worker.invariant.passes);
      draws = rw c.in_ok-push-2.ensures.items (moved (λ (r : Brought g.row.P.Denot g.row.A.Denot). r.draws) _ c.in-Some.worker _ _ _ step c.loop-worker.invariant.draws);
      seats = rw c.in_ok-push-3.ensures.items (moved (λ (r : Brought g.row.P.Denot g.row.A.Denot). r.seat) _ c.in-Some.worker _ _ _ step c.loop-worker.invariant.seats);
      workspaces = rw c.in_ok-push-4.ensures.items (moved (λ (r : Brought g.row.P.Denot g.row.A.Denot). r.workspace) _ c.in-Some.worker _ _ _ step c.loop-worker.invariant.workspaces);
    }

pub returns-clause-lists : goal.returns-clause-lists
returns-clause-lists g c =
    let none : length c.loop-worker.worker-iterator.rest.items ≡ 0 = omega (arith, c.in-None.ensures.steps.0, c.loop-worker.worker-iterator.rest.ok) in record {
      passes_are = finished (λ (r : Brought g.row.P.Denot g.row.A.Denot). r.pass) _ c.loop-worker.worker-iterator.rest.items _ none c.loop-worker.invariant.passes;
      draws_are = finished (λ (r : Brought g.row.P.Denot g.row.A.Denot). r.draws) _ c.loop-worker.worker-iterator.rest.items _ none c.loop-worker.invariant.draws;
      seats_are = finished (λ (r : Brought g.row.P.Denot g.row.A.Denot). r.seat) _ c.loop-worker.worker-iterator.rest.items _ none c.loop-worker.invariant.seats;
      workspaces_are = finished (λ (r : Brought g.row.P.Denot g.row.A.Denot). r.workspace) _ c.loop-worker.worker-iterator.rest.items _ none c.loop-worker.invariant.workspaces;
      ended = λ e. subst (Each (λ (r : Brought g.row.P.Denot g.row.A.Denot). r.outcome ≡ Ended)) c.deref.ensures.value (c.ending_of-ending.ensures.ended e);
      left = λ e. subst IsLeftEarly c.deref.ensures.value (c.ending_of-ending.ensures.left e);
      refused = λ x e. subst (IsFirstRefusal x) c.deref.ensures.value (c.ending_of-ending.ensures.refused x e);
    }
