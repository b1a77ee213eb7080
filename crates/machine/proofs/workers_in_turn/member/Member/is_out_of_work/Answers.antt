use Rattle.std.proofs.Common.{◌≢◌, [], subst}
use Rattle.std.specs.Prelude.{IsTrue}
use Rattle.machine.specs.InterleavedValue.{MemberValue}
use Rattle.machine.proofs.Laws.{out_says}
use Rattle.machine.proofs.workers_in_turn.member.Member.is_out_of_work.Goals as goal

pub returns-then-not-has_large : goal.returns-then-not-has_large
returns-then-not-has_large g c =
    out_says c.args.self.now.workspace.worker c.has_aside.result c.has_large.result c.is_none.result c.lowest_open.result (c.is_free.ensures.0 c.if-not-is_free.false)
    (subst (λ (m : MemberValue). m.workspace.worker.aside ≢ [] → IsTrue c.has_aside.result) c.self.view_is c.has_aside.ensures.1) c.if-has_aside.false
    (subst (λ (m : MemberValue). m.workspace.worker.large ≢ [] → IsTrue c.has_large.result) c.self.view_is c.has_large.ensures.1) c.if-not-has_large.true
    c.lowest_open.ensures c.is_none.ensures
