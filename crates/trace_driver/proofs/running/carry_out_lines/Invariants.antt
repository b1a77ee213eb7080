use Rattle.std.proofs.Common.{◌≡◌, ◌+◌, ◌≤◌}
use Rattle.trace_session.specs.Lines.{Moves, most_left}
use Rattle.trace_replay.specs.Session.{Stands}
use Rattle.trace_driver.proofs.LineByLine.{HasCarriedOut}
use Rattle.trace_driver.proofs.running.carry_out_lines.Given as goal

abbrev pub invariant-loop-session : goal.invariant-loop-session
invariant-loop-session g l = record {
  moves : Moves l.fn.lines l.lines (g.S.Source.input l.fn.reader) (g.S.Source.input l.reader)
      (HasCarriedOut (Stands l.fn.session) (Stands l.session) l.number (g.W.Sink.output l.fn.writer) (g.W.Sink.output l.writer));
  room : l.number + most_left l.lines ≤ 1 + most_left l.fn.lines;
  reads : g.S.Source.failed_reads l.reader ≡ g.S.Source.failed_reads l.fn.reader;
  writes : g.W.Sink.failed_writes l.writer ≡ g.W.Sink.failed_writes l.fn.writer;
}

abbrev pub decreases-loop-session : goal.decreases-loop-session
decreases-loop-session g l = most_left l.lines
