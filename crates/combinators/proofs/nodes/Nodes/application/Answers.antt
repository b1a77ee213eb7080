use Rattle.std.proofs.Common.{◌≢◌, ap, ◌∙◌, rules, arith}
use Rattle.std.specs.Prelude.{IsSome, is_some}
use Rattle.model.specs.Graph.{root_at, without_root}
use Rattle.heap.specs.HeapValue.{HeapValue}
use Rattle.combinators.proofs.NewNodes.{IsMade, added, stored_node, stored_keeps, other_stays, never_unset, never_unknown}
use Rattle.combinators.proofs.nodes.Nodes.application.Goals as goal

never_set_function : (c : goal.After-from_residual-in_err-set_function) → ⊥
never_set_function c =
    let node = c.in_ok-node.node.number in
    let made : IsMade c.args.self.now 2 0 node c.allocate.new.self = added c.args.self.now 2 0 node c.allocate.new.self c.in_ok-node.ensures.ok in
    let known : IsSome (root_at c.args.self.now.graph c.args.function.number) = search rules in
    never_unset c.allocate.new.self node 0 c.args.function.number c.set_function.result c.set_function.ensures.bad_node c.set_function.ensures.memory c.set_function.ensures.kinds made.node (omega arith) (made.keeps c.args.function.number known) c.in_err-set_function.field-0.0 c.in_err-set_function.was

never_set_argument : (c : goal.After-from_residual-in_err-set_argument) → ⊥
never_set_argument c =
    let node = c.in_ok-node.node.number in
    let made : IsMade c.args.self.now 2 0 node c.allocate.new.self = added c.args.self.now 2 0 node c.allocate.new.self c.in_ok-node.ensures.ok in
    let known : IsSome (root_at c.args.self.now.graph c.args.argument.number) = search rules in
    let stores = c.in_ok-set_function.ensures.ok in
    let there = stored_keeps c.allocate.new.self node 2 0 made.node 0 _ c.set_function.new.self stores c.args.argument.number (made.keeps c.args.argument.number known) in
    never_unset c.set_function.new.self node 1 c.args.argument.number c.set_argument.result c.set_argument.ensures.bad_node c.set_argument.ensures.memory c.set_argument.ensures.kinds (stored_node c.allocate.new.self node 2 0 made.node 0 _ c.set_function.new.self stores) (omega arith) there c.in_err-set_argument.field-0.0 c.in_err-set_argument.was

never_release_argument : (c : goal.After-from_residual-in_err-release-2) → ⊥
never_release_argument c =
    let node = c.in_ok-node.node.number in
    let made : IsMade c.args.self.now 2 0 node c.allocate.new.self = added c.args.self.now 2 0 node c.allocate.new.self c.in_ok-node.ensures.ok in
    let known : IsSome (root_at c.args.self.now.graph c.args.argument.number) = search rules in
    let differ : c.args.argument.number ≢ c.args.function.number = search rules in
    let stores = c.in_ok-set_function.ensures.ok in
    let with_function = stored_node c.allocate.new.self node 2 0 made.node 0 _ c.set_function.new.self stores in
    let there = stored_keeps c.allocate.new.self node 2 0 made.node 0 _ c.set_function.new.self stores c.args.argument.number (made.keeps c.args.argument.number known) in
    let both : IsSome (root_at c.set_argument.new.self.graph c.args.argument.number) = stored_keeps c.set_function.new.self node 2 0 with_function 1 _ c.set_argument.new.self c.in_ok-set_argument.ensures.ok c.args.argument.number there in
    let left : IsSome (root_at c.release.new.self.graph c.args.argument.number) =
    ap (λ (h : HeapValue). is_some (root_at h.graph c.args.argument.number)) c.in_ok-release.ensures.ok
    ∙ other_stays c.set_argument.new.self.graph c.args.function.number c.args.argument.number differ both
    in
    never_unknown c.release.new.self.graph c.args.argument.number c.release-2.result c.release-2.ensures.known left c.in_err-release-2.field-0.0 c.in_err-release-2.was

pub returns-in_err-set_function-clause-bad_node : goal.returns-in_err-set_function-clause-bad_node
returns-in_err-set_function-clause-bad_node c = absurd (never_set_function c)

pub returns-in_err-set_function-clause-same : goal.returns-in_err-set_function-clause-same
returns-in_err-set_function-clause-same c = absurd (never_set_function c)

pub returns-in_err-set_function-clause-err : goal.returns-in_err-set_function-clause-err
returns-in_err-set_function-clause-err c = absurd (never_set_function c)

pub returns-in_err-set_argument-clause-bad_node : goal.returns-in_err-set_argument-clause-bad_node
returns-in_err-set_argument-clause-bad_node c = absurd (never_set_argument c)

pub returns-in_err-set_argument-clause-same : goal.returns-in_err-set_argument-clause-same
returns-in_err-set_argument-clause-same c = absurd (never_set_argument c)

pub returns-in_err-set_argument-clause-err : goal.returns-in_err-set_argument-clause-err
returns-in_err-set_argument-clause-err c = absurd (never_set_argument c)

pub returns-in_err-release-2-clause-bad_node : goal.returns-in_err-release-2-clause-bad_node
returns-in_err-release-2-clause-bad_node c = absurd (never_release_argument c)

pub returns-in_err-release-2-clause-same : goal.returns-in_err-release-2-clause-same
returns-in_err-release-2-clause-same c = absurd (never_release_argument c)

pub returns-in_err-release-2-clause-err : goal.returns-in_err-release-2-clause-err
returns-in_err-release-2-clause-err c = absurd (never_release_argument c)

pub returns-clause-ok : goal.returns-clause-ok
returns-clause-ok c =
    record {
      heap = c.allocate.new.self;
      with_function = c.set_function.new.self;
      with_argument = c.set_argument.new.self;
      adds = c.in_ok-node.ensures.ok;
      function_set = c.in_ok-set_function.ensures.ok;
      argument_set = c.in_ok-set_argument.ensures.ok;
      given_up = c.in_ok-release-2.ensures.ok ∙ ap (λ (h : HeapValue). record h { graph = without_root h.graph c.args.argument.number }) c.in_ok-release.ensures.ok;
    }
