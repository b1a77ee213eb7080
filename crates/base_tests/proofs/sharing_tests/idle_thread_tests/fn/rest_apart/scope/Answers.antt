use Rattle.std.proofs.Common.{rules, ap, ◌≡◌, false, sym, subst}
use Rattle.std.specs.List.{All}
use Rattle.std.proofs.lemmas.List.Elements.{All-rest, All-push}
use Rattle.idle_count.specs.IdleValue.{IsSeatOf}
use Rattle.base_tests.proofs.sharing_tests.idle_thread_tests.fn.rest_apart.scope.Goals as goal

pub loop-seat-preserved : goal.loop-seat-preserved
loop-seat-preserved g c = record {
  many = search rules;
  room = search rules;
  rest = All-rest (λ s. IsSeatOf c.captures.idle.now s × (s.idle ≡ false)) c.in-Some.seat _ _ c.in-Some.ensures.steps.0 c.loop-seat.invariant.rest;
  made = subst (All (λ h. h.promise.0.now ≡ c.captures.idle.now)) (sym c.push_reserved.ensures.items)
      (All-push (λ h. h.promise.0.now ≡ c.captures.idle.now) _ _ c.loop-seat.invariant.made (ap (λ p. p.0.now) c.in_ok-handle.ensures.ok));
}
