use Rattle.std.proofs.Common.{◌≡◌, length}
use Rattle.base_tests.proofs.sharing_tests.queue_tests.lane_tests.send_all.Given as goal

abbrev pub invariant-loop-position : goal.invariant-loop-position
invariant-loop-position g l = record {
  same : l.pass ≡ record l.fn.pass { sent = l.pass.sent };
  many : length l.pass.sent ≡ l.position;
}
