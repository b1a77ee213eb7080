use Rattle.std.proofs.Common.{◌≡◌, ◌≤◌, length, map, take}
use Rattle.std.specs.Vec.{vec_capacity}
use Rattle.pending_queues.specs.Written.{left}
use Rattle.pending_queues.proofs.exports.deliveries.left_blocks.Given as goal

abbrev pub invariant-loop-objects : goal.invariant-loop-objects
invariant-loop-objects g l = record {
  room : length l.sizes ≤ vec_capacity l.list;
  many : length l.list.items ≡ l.objects-index;
  told : l.list.items ≡ map left (take l.objects-index l.sizes);
}
