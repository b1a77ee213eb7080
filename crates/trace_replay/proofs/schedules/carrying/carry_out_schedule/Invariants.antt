use Rattle.std.proofs.Common.{◌≡◌, ◌+◌, ◌≤◌}
use Rattle.trace_session.specs.Lines.{Moves, most_left}
use Rattle.trace_replay.proofs.schedules.carrying.carry_out_schedule.Given as goal
use Rattle.trace_replay.proofs.SchedulesLineByLine.{HasCarried}

abbrev pub invariant-loop-machine : goal.invariant-loop-machine
invariant-loop-machine g l = record {
  so_far : Moves l.fn.lines l.lines (g.S.Source.input l.fn.reader) (g.S.Source.input l.reader) (λ text rest.
      HasCarried (l.start + 1) text l.next rest l.fn.machine l.machine);
  room : l.next + most_left l.lines ≤ l.start + 1 + most_left l.fn.lines;
  reads : g.S.Source.failed_reads l.reader ≡ g.S.Source.failed_reads l.fn.reader;
}

abbrev pub decreases-loop-machine : goal.decreases-loop-machine
decreases-loop-machine g l = most_left l.lines
