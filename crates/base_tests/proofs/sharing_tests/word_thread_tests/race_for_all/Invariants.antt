use Rattle.std.proofs.Common.{◌≡◌, ◌≤◌}
use Rattle.base_tests.proofs.sharing_tests.word_thread_tests.race_for_all.Given as goal

abbrev pub invariant-loop-name : goal.invariant-loop-name
invariant-loop-name l = record {
  pass : l.pass.id ≡ l.cells.id;
  won : l.won ≤ l.name;
}
