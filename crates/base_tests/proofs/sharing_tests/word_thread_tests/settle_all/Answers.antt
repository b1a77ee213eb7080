use Rattle.std.proofs.Common.{rules, ◌≡◌, List, All, subst}
use Rattle.std.proofs.lemmas.List.Elements.{All-head, All-push, All-rest}
use Rattle.forwarding.specs.Words.{WordPassValue}
use Rattle.base_tests.specs.declared.sharing_tests.word_thread_tests.Done.{Done}
use Rattle.base_tests.proofs.sharing_tests.word_thread_tests.settle_all.Goals as goal

pub loop-done-preserved : goal.loop-done-preserved
loop-done-preserved c =
    let inv = c.loop-done.invariant in
    let items = c.push_reserved.ensures.items in
    let first = All-head (λ (d : Done). d.pass.id ≡ c.args.cells.id) c.in-Some.done _ (subst (λ (ds : List Done). All (λ (d : Done). d.pass.id ≡ c.args.cells.id) ds) c.in-Some.ensures.steps.0 inv.rest) in
    record {
      many = search rules;
      room = search rules;
      rest = All-rest (λ (d : Done). d.pass.id ≡ c.args.cells.id) c.in-Some.done _ _ c.in-Some.ensures.steps.0 inv.rest;
      made = rw items (All-push (λ (p : WordPassValue). p.id ≡ c.args.cells.id) _ _ inv.made first);
    }
