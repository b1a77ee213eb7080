use Rattle.std.proofs.Common.{◌≡◌, ◌+◌, length, Some, refl, sym, ap, ◌∙◌, arith}
use Rattle.workers.specs.WorkerSteps.{has_open_work}
use Rattle.scavenge.proofs.OpenBlocks.{first_open, none_open}
use Rattle.machine.specs.InterleavedValue.{MemberValue}
use Rattle.machine.proofs.workers_in_turn.member.Member.lowest_open.Goals as goal

pub returns-then-has_open : goal.returns-then-has_open
returns-then-has_open g c =
    let z : 0 + c.loop-d.d ≡ c.loop-d.d = omega arith in
    sym (first_open 0 c.args.self.now.workspace.worker.allocation c.loop-d.d c.loop-d.invariant.none (ap (λ (v : MemberValue). has_open_work v.workspace.worker c.loop-d.d) (sym c.self.view_is) ∙ c.if-has_open.ensures.0 refl) ∙ ap (λ k. Some k) z)

pub returns : goal.returns
returns g c =
    sym (none_open 0 c.args.self.now.workspace.worker.allocation (λ e l. c.loop-d.invariant.none e (let n : length c.args.self.now.workspace.worker.allocation ≡ c.destinations-d-end.result = ap (λ (v : MemberValue). length v.workspace.worker.allocation) (sym c.self.view_is) ∙ sym c.destinations-d-end.ensures in omega (arith, n, l, c.loop-d-test.false))))
