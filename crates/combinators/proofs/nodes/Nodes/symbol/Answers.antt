use Rattle.std.proofs.Common.{sym, subst}
use Rattle.combinators.specs.Nodes.{AddsNode}
use Rattle.heap.specs.HeapValue.{HeapValue}
use Rattle.combinators.proofs.NewNodes.{IsYoungNode, added, never_unwritten}
use Rattle.combinators.proofs.nodes.Nodes.symbol.Goals as goal

pub unreachable-requires : goal.unreachable-requires
unreachable-requires c =
    let is = added c.args.self.now 0 1 c.in_ok-node.node.number c.allocate.new.self c.in_ok-node.ensures.ok in
    let node : IsYoungNode c.self.inside.heap.graph c.in_ok-node.node.number 0 1 = subst (λ (h : HeapValue). IsYoungNode h.graph c.in_ok-node.node.number 0 1) (sym c.self.view_is) is.node in
    never_unwritten c.self.inside.heap.graph c.in_ok-node.node.number c.put.result c.put.ensures.no_root c.put.ensures.bad_field node c.in_default.field-0 c.in_default.is

pub returns-clause-ok : goal.returns-clause-ok
returns-clause-ok c =
    record {
      heap = c.self.inside.heap;
      adds = subst (λ h. AddsNode c.args.self.now 0 1 c.in_ok-node.node.number h) (sym c.self.view_is) c.in_ok-node.ensures.ok;
      written = c.in-Ok.ensures.ok;
    }
