use Rattle.std.proofs.Common.{arith, ◌+◌, ap, ◌∙◌, length, length-append}
use Rattle.pending_queues.proofs.Dealing.{roots-push}
use Rattle.pending_queues.proofs.opening.open_lanes.Goals as goal

pub loop-exporter-preserved : goal.loop-exporter-preserved
loop-exporter-preserved g c =
    let i = c.loop-exporter.invariant in
    let p = c.push_reserved.ensures in
    let q = c.push_reserved-in-loop-exporter.ensures in
    record {
      lanes = ap length p.items ∙ (length-append c.loop-exporter.lanes.items _ ∙ ap (λ n. n + 1) i.lanes);
      many = ap length q.items ∙ (length-append c.loop-exporter.roots.items _ ∙ ap (λ n. n + 1) i.many);
      lanes_room = (let k = p.capacity in let l = i.lanes_room in omega arith);
      roots_room = (let k = q.capacity in let l = i.roots_room in omega arith);
      roots = rw (p.items, q.items) (roots-push _ _ _ _ _ _ _ i.roots i.many c.in_ok-lane.ensures);
    }
