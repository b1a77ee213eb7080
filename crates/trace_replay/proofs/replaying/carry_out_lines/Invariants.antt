use Rattle.std.proofs.Common.{◌≡◌, ◌+◌, ◌≤◌}
use Rattle.trace_session.specs.Lines.{Moves, most_left}
use Rattle.trace_session.specs.Pieces.{pieces}
use Rattle.trace_session.specs.Stepped.{AtEach}
use Rattle.trace_session.specs.Session.{Stands}
use Rattle.trace_replay.specs.Replays.{ReplaysTo, state_of}
use Rattle.trace_replay.proofs.replaying.carry_out_lines.Given as goal

abbrev pub invariant-loop-session : goal.invariant-loop-session
invariant-loop-session g l = record {
  so_far : Moves l.fn.lines l.lines (g.S.Source.input l.fn.reader) (g.S.Source.input l.reader) (λ text rest. AtEach (Stands l.fn.session) (λ config store.
      ReplaysTo l.session config l.workers (state_of l.fn.session store) 1 (pieces text) l.number rest (g.W.Sink.output l.fn.writer) (g.W.Sink.output l.writer)));
  room : l.number + most_left l.lines ≤ 1 + most_left l.fn.lines;
  reads : g.S.Source.failed_reads l.reader ≡ g.S.Source.failed_reads l.fn.reader;
  counts : g.W.Sink.failed_writes l.writer ≡ g.W.Sink.failed_writes l.fn.writer;
}

abbrev pub decreases-loop-session : goal.decreases-loop-session
decreases-loop-session g l = most_left l.lines
