use Rattle.std.proofs.Common.{◌≡◌, ℕ, ◌<◌, get_or, false}
use Rattle.std.specs.Prelude.{◌==◌}
use Rattle.trace_session.proofs.trace_lines.lines.split_line.Given as goal

abbrev pub invariant-loop-i : goal.invariant-loop-i
invariant-loop-i l = (k : ℕ) → k < l.i → (get_or l.text k 0 == 10) ≡ false
