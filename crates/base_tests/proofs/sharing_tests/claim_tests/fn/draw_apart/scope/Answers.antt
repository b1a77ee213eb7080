use Rattle.std.proofs.Common.{rules, ap, ◌≡◌, sym, subst}
use Rattle.std.specs.List.{All}
use Rattle.std.proofs.lemmas.List.Elements.{All-rest, All-push}
use Rattle.block_pool.specs.ClaimsValue.{IsSeatOf}
use Rattle.base_tests.proofs.sharing_tests.claim_tests.fn.draw_apart.scope.Goals as goal

pub loop-seat-preserved : goal.loop-seat-preserved
loop-seat-preserved g c = record {
  many = search rules;
  room = search rules;
  rest = All-rest (IsSeatOf c.captures.claims.now.source) c.in-Some.seat _ _ c.in-Some.ensures.steps.0 c.loop-seat.invariant.rest;
  made = subst (All (λ h. h.promise.0.now ≡ c.captures.claims.now)) (sym c.push_reserved.ensures.items) (All-push (λ h. h.promise.0.now ≡ c.captures.claims.now) _ _ c.loop-seat.invariant.made (ap (λ p. p.0.now) c.in_ok-handle.ensures.ok));
}
