use Rattle.std.proofs.Common.{rules, sym, subst, IfOk}
use Rattle.std.specs.List.{All}
use Rattle.std.proofs.lemmas.List.Elements.{All-rest, All-push}
use Rattle.block_pool.specs.ClaimsValue.{IsSeatOf}
use Rattle.base_tests.proofs.sharing_tests.claim_tests.bring_together.Goals as goal

pub loop-done-preserved : goal.loop-done-preserved
loop-done-preserved c = record {
  many = search rules;
  rest = All-rest (λ r. IfOk r (λ d. IsSeatOf c.args.claims.now.source d.seat)) c.in-Some.done _ _ c.in-Some.ensures.steps.0 c.loop-done.invariant.rest;
  made = subst (All (IsSeatOf c.args.claims.now.source)) (sym c.in_ok-push.ensures.items) (All-push (IsSeatOf c.args.claims.now.source) _ c.draw.new.seat c.loop-done.invariant.made c.draw.ensures.seat);
}
