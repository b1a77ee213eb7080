-- A schedule goes on by one line that is read, and stops at one.
use Rattle.std.proofs.Common.{◌≡◌, ℕ, ◌+◌, ◌<◌, ◌≤◌, List, [], ◌∷◌, ◌++◌, length, Some, None, Ok, Err, refl, sym, subst, arith}
use Rattle.std.specs.Prelude.{MatchOption, IsTrue}
use Rattle.heap_text.specs.Streams.{Input, OfGiven, OfInput}
use Rattle.heap_text.proofs.Streams.{Gives-nil}
use Rattle.model.specs.declared.kind.Kind.TheVariants.{LineTooLong, UnfinishedLine}
use Rattle.trace_text.specs.ScheduleGrammar.{schedule_line_of}
use Rattle.trace_text.specs.declared.schedule.ScheduleLine.TheVariants.{Commit}
use Rattle.trace_text.specs.declared.schedule.ScheduleKind.TheVariants.{UnfinishedSchedule}
use Rattle.trace_text.specs.declared.schedule.LineFault.TheVariants as faults
use Rattle.trace_session.specs.declared.trace_lines.fault.Fault.{Fault}
use Rattle.trace_session.specs.declared.trace_lines.fault.Fault.TheVariants.{BadTrace, BadSchedule, HeapFull, NoMemory, Unsettled, ReadFailed, WriteFailed}
use Rattle.trace_session.specs.Faults.{never, AtFault}
use Rattle.trace_session.specs.Lines.{LinesValue, Moves, Cuts, Waits}
use Rattle.trace_session.specs.Pieces.{HasNoFeed}
use Rattle.machine.specs.MachineValue.{MachineValue, setting_in}
use Rattle.machine.specs.Events.{IsSameCollection, IsShortOfBlocks}
use Rattle.trace_replay.specs.Runs.{BringsOn, IsSchedule}
use Rattle.trace_replay.specs.Stops.{IsUnreadable, IsFaulty, IsRefusedBlocks, IsShort, IsSoundLine, IsUsedUp, OfLine, StopsAt, StopsWith}
use Rattle.trace_session.proofs.LineLemmas.{at_line, at_wait, moves_as, stops_moved, stops_pending, stops_ended, given_moved}
use Rattle.trace_session.proofs.PieceLemmas.{begins_long}
use Rattle.trace_replay.proofs.SchedulesLineByLine as by_text
use Rattle.trace_replay.proofs.SchedulesLineByLine.{carried_none, HasCarried}

-- nothing was read yet
pub nothing_carried : (number : ℕ) (m : MachineValue) (a : LinesValue) (i : Input) → Moves a a i i (λ text rest. HasCarried number text number rest m m)
nothing_carried number m a i = record {
  bytes = [];
  gave = Gives-nil i;
  reads = omega arith;
  holds = λ more. carried_none number (a.pending ++ more) m;
}

module _ (start number' : ℕ) (old mid : MachineValue) (a b c : LinesValue) (i j k : Input) (so_far : Moves a b i j (λ text rest. HasCarried (start + 1) text number' rest old mid)) where
  -- a line was cut off
  module _ (cut : Cuts b c j k) (line : List ℕ) (line_is : line ≡ c.line) where
    before_line : Moves a c i k (λ text rest. HasCarried (start + 1) text number' (line ++ 10 ∷ rest) old mid)
    before_line = subst (λ l. Moves a c i k (λ text rest. HasCarried (start + 1) text number' (l ++ 10 ∷ rest) old mid)) (sym line_is) (at_line a b c i j k so_far cut)

    free : HasNoFeed line
    free = subst HasNoFeed (sym line_is) cut.free

    pub carried_on : (new : MachineValue) → BringsOn line mid new → Moves a c i k (λ text rest. HasCarried (start + 1) text (number' + 1) rest old new)
    carried_on new brings = moves_as a c i k before_line (λ text rest h. by_text.carried_on start text number' (line ++ 10 ∷ rest) old mid h line rest refl free new brings)

    pub ends_with : (new : MachineValue) → (schedule_line_of line ≡ Ok Commit) × (new ≡ mid)
        → Moves a c i k (λ text rest. IsSchedule (setting_in old) old.system (start + 1) text number' rest new.system)
    ends_with new ends = moves_as a c i k before_line (λ text rest h. by_text.ends_with start text number' (line ++ 10 ∷ rest) old mid h line rest refl free new ends)

    pub same_at_end : (new : MachineValue) → (schedule_line_of line ≡ Ok Commit) × (new ≡ mid) → IsSameCollection old new
    same_at_end new ends = by_text.same_at_end start _ number' _ old mid (before_line.holds []) line _ refl free new ends

    pub fault_of_line : (read : Type 0) (e : Fault)
        → AtFault (record never { trace = λ at kind. (at ≡ number') × (schedule_line_of line ≡ Err (faults.Trace kind)); schedule = λ at kind. (at ≡ number') × IsFaulty (setting_in mid) mid.system line kind; full = λ at. (at ≡ Some number') × IsShort line mid; memory = λ at. (at ≡ Some number') × IsSoundLine (setting_in mid) mid.system line }) e
        → AtFault (record never {
          trace = λ at kind. OfInput a.pending i k (λ text. StopsAt (IsUnreadable kind) (setting_in old) old.system (start + 1) text at);
          schedule = λ at kind. OfInput a.pending i k (λ text. StopsWith (setting_in old) old.system start text at kind);
          full = λ at. MatchOption at ⊥ (λ line. OfInput a.pending i k (λ text. StopsAt (OfLine (IsRefusedBlocks (setting_in old))) (setting_in old) old.system (start + 1) text line)
              × IsShortOfBlocks old.heap old.collection.generation old.workers);
          memory = λ at. MatchOption at ⊥ (λ line. OfInput a.pending i k (λ text. StopsAt (OfLine (IsSoundLine (setting_in old))) (setting_in old) old.system (start + 1) text line));
          read = read;
        }) e
    fault_of_line read (BadTrace at kind) f =
        stops_moved a c i k before_line (λ text rest h. by_text.fault_of_line start text number' (line ++ 10 ∷ rest) old mid h line rest refl free (BadTrace at kind) f)
    fault_of_line read (BadSchedule at kind) f =
        stops_moved a c i k before_line (λ text rest h. by_text.fault_of_line start text number' (line ++ 10 ∷ rest) old mid h line rest refl free (BadSchedule at kind) f)
    fault_of_line read (HeapFull None) f = absurd (let none = f.0 in cc)
    fault_of_line read (HeapFull (Some at)) f = (
      stops_moved a c i k before_line (λ text rest h. (by_text.fault_of_line start text number' (line ++ 10 ∷ rest) old mid h line rest refl free (HeapFull (Some at)) f).0),
      (by_text.fault_of_line start _ number' _ old mid (before_line.holds []) line _ refl free (HeapFull (Some at)) f).1,
    )
    fault_of_line read (NoMemory None) f = absurd (let none = f.0 in cc)
    fault_of_line read (NoMemory (Some at)) f =
        stops_moved a c i k before_line (λ text rest h. by_text.fault_of_line start text number' (line ++ 10 ∷ rest) old mid h line rest refl free (NoMemory (Some at)) f)
    fault_of_line read (Unsettled line) f = absurd f
    fault_of_line read ReadFailed f = absurd f
    fault_of_line read WriteFailed f = f

  -- no line feed came
  module _ (wait : Waits b c j k) where
    before_rest : Moves a c i k (λ text rest. HasCarried (start + 1) text number' rest old mid)
    before_rest = at_wait a b c i j k so_far wait

    pub ends_long : 4096 < length c.pending → OfInput a.pending i k (λ text. StopsAt (IsUnreadable LineTooLong) (setting_in old) old.system (start + 1) text number')
    ends_long long = stops_pending a c i k before_rest (λ text more h. by_text.ends_long start text number' (c.pending ++ more) old mid h (begins_long c.pending more wait.free long))

    pub ends_unfinished : IsTrue k.ended → 0 < length c.pending → length c.pending ≤ 4096
        → OfInput a.pending i k (λ text. StopsAt (IsUnreadable UnfinishedLine) (setting_in old) old.system (start + 1) text number')
    ends_unfinished ended some short = stops_ended a c i k before_rest ended (λ text h. by_text.ends_unfinished start text number' c.pending old mid h wait.free some short)

    pub ends_short : IsTrue k.ended → length c.pending ≡ 0 → OfInput a.pending i k (λ text. StopsWith (setting_in old) old.system start text start UnfinishedSchedule)
    ends_short ended none = stops_ended a c i k before_rest ended (λ text h. by_text.ends_short start text number' c.pending old mid h none)

    pub used_up : OfGiven a.pending i k (IsUsedUp (setting_in old) old.system)
    used_up = given_moved a c i k before_rest (λ text h. by_text.used_up start text number' c.pending old mid h wait.free)
