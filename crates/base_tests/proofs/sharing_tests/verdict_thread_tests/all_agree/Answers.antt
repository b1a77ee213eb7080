use Rattle.std.proofs.Common.{rules, ◌≡◌}
use Rattle.std.proofs.lemmas.List.Elements.{All-rest}
use Rattle.base_tests.proofs.sharing_tests.verdict_thread_tests.all_agree.Goals as goal

pub loop-told-preserved : goal.loop-told-preserved
loop-told-preserved c = record {
  first = search rules;
  rest = All-rest (λ t. t.seat.name ≡ c.args.verdict.now.name) c.in-Some.told _ _ c.in-Some.ensures.steps.0 c.loop-told.invariant.rest;
}
