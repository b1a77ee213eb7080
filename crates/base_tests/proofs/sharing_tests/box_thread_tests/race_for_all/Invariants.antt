use Rattle.std.proofs.Common.{◌≡◌, length}
use Rattle.forwarding.specs.Noted.{IsPassOf}
use Rattle.base_tests.proofs.sharing_tests.box_thread_tests.race_for_all.Given as goal

abbrev pub invariant-loop-name : goal.invariant-loop-name
invariant-loop-name l = record {
  count : length l.cells ≡ 1000;
  pass : IsPassOf l.cells l.pass;
  number : l.pass.number ≡ l.fn.pass.number;
}
