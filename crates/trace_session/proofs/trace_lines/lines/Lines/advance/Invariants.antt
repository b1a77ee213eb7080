use Rattle.std.proofs.Common.{◌≡◌, ◌≤◌}
use Rattle.trace_session.specs.Lines.{Moves, most_left}
use Rattle.trace_session.proofs.trace_lines.lines.Lines.advance.Given as goal

abbrev pub invariant-loop-self : goal.invariant-loop-self
invariant-loop-self g l = record {
  moves : Moves l.fn.self l.self (g.S.Source.input l.fn.reader) (g.S.Source.input l.reader) (λ text rest. text ≡ rest);
  less : most_left l.self ≤ most_left l.fn.self;
  counts : g.S.Source.failed_reads l.reader ≡ g.S.Source.failed_reads l.fn.reader;
}

abbrev pub decreases-loop-self : goal.decreases-loop-self
decreases-loop-self g l = l.self.reads
