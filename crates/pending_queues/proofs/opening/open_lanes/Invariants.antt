use Rattle.std.proofs.Common.{◌≡◌, ◌≤◌, length, vec_capacity}
use Rattle.pending_queues.specs.Dealt.{AreRoots}
use Rattle.pending_queues.proofs.opening.open_lanes.Given as goal

abbrev pub invariant-loop-exporter : goal.invariant-loop-exporter
invariant-loop-exporter g l = record {
  lanes : length l.lanes.items ≡ l.exporter;
  many : length l.roots.items ≡ l.exporter;
  lanes_room : l.count ≤ vec_capacity l.lanes;
  roots_room : l.count ≤ vec_capacity l.roots;
  roots : AreRoots l.key l.lanes.items l.count 0 l.roots.items;
}
