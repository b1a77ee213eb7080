-- Why a schedule stops.
use Rattle.std.specs.Prelude.{◌≡◌, ℕ, ◌+◌, nat_lt, List, ◌∷◌, ◌++◌, length, map, Ok, Err, if◌then◌else◌}
use Rattle.model.specs.declared.kind.Kind.{Kind}
use Rattle.model.specs.declared.kind.Kind.TheVariants.{LineTooLong, UnfinishedLine}
use Rattle.workers.specs.Setting.{Setting}
use Rattle.workers.specs.System.{System}
use Rattle.workers.specs.Lawful.{IsLawful, IsRefused, AllEnded, next_lawful}
use Rattle.workers.specs.Finish.{Stepped, IsStuck}
use Rattle.trace_text.specs.ScheduleGrammar.{schedule_line_of}
use Rattle.trace_text.specs.declared.schedule.ScheduleEvent.{ScheduleEvent}
use Rattle.trace_text.specs.declared.schedule.ScheduleLine.{ScheduleLine}
use Rattle.trace_text.specs.declared.schedule.ScheduleLine.TheVariants.{Nothing, Event, Finish, Commit}
use Rattle.trace_text.specs.declared.schedule.ScheduleKind.{ScheduleKind}
use Rattle.trace_text.specs.declared.schedule.ScheduleKind.TheVariants.{NotLawful, NotEnded, UnfinishedSchedule}
use Rattle.trace_text.specs.declared.schedule.LineFault.TheVariants as faults
use Rattle.trace_session.specs.Pieces.{Piece, finished, unfinished, pieces, whole_lines}
use Rattle.steps.specs.HeapValue.{HeapValue}
use Rattle.settling.specs.Collects.{setting_at, opening_at}
use Rattle.trace_replay.specs.Naming.{meant}
use Rattle.machine.specs.MachineValue.{MachineValue, setting_in}
use Rattle.machine.specs.Events.{IsShortOfBlocks}
use Rattle.trace_replay.specs.Runs.{LinesRun}

-- a line that can't be read as any line, where the workers stand so
abbrev pub IsUnreadable : Kind → System → Piece → Type 0
IsUnreadable kind s (finished line) = schedule_line_of line ≡ Err (faults.Trace kind)
IsUnreadable kind s (unfinished line) = (if nat_lt 4096 (length line) then LineTooLong else UnfinishedLine) ≡ kind

-- a line of a schedule that is read but misread, or doesn't suit where the workers stand
pub data IsFaulty (setting : Setting) (s : System) (line : List ℕ) : ScheduleKind → Type 0 where
  misread : {kind : ScheduleKind} → schedule_line_of line ≡ Err (faults.Schedule kind) → IsFaulty setting s line kind
  unlawful : {event : ScheduleEvent} → schedule_line_of line ≡ Ok (Event event) → ¬ IsLawful setting s (meant event) → IsFaulty setting s line NotLawful
  not_ended : schedule_line_of line ≡ Ok Commit → ¬ AllEnded s → IsFaulty setting s line NotEnded

-- what comes next by itself comes to a look which wants a block where none is free
pub record ComesToStuck (setting : Setting) (s : System) : Type 0 where
  pub mid : System
  pub count : ℕ
  pub run : Stepped setting (next_lawful setting) s count mid
  pub stuck : IsStuck setting (next_lawful setting) mid

-- a line that comes to such a look
pub data IsRefusedBlocks (setting : Setting) (s : System) (line : List ℕ) : Type 0 where
  by_event : {event : ScheduleEvent} → schedule_line_of line ≡ Ok (Event event) → IsRefused setting s (meant event) → IsRefusedBlocks setting s line
  by_finish : schedule_line_of line ≡ Ok Finish → ComesToStuck setting s → IsRefusedBlocks setting s line

-- of a machine, in whose collection too few blocks were free
pub record IsShort (line : List ℕ) (m : MachineValue) : Type 0 where
  pub wants : IsRefusedBlocks (setting_in m) m.system line
  pub short : IsShortOfBlocks m.heap m.collection.generation m.workers

-- what comes next by itself comes to one, and too few blocks were free
pub record IsStuckAfter (m : MachineValue) : Type 0 where
  pub comes : ComesToStuck (setting_in m) m.system
  pub short : IsShortOfBlocks m.heap m.collection.generation m.workers

-- the same of n workers in turn, from the opening of a collection of this heap
pub record IsFullInTurn (heap : HeapValue) (g n : ℕ) : Type 0 where
  pub comes : ComesToStuck (setting_at heap g n) (opening_at heap g n)
  pub short : IsShortOfBlocks heap g n

-- what a line says may come
abbrev pub MayCome : Setting → System → ScheduleLine → Type 0
MayCome setting s Nothing = Unit {0}
MayCome setting s (Event event) = IsLawful setting s (meant event)
MayCome setting s Finish = Unit {0}
MayCome setting s Commit = AllEnded s

-- a line without a fault
pub record IsSoundLine (setting : Setting) (s : System) (line : List ℕ) : Type 0 where
  pub said : ScheduleLine
  pub says : schedule_line_of line ≡ Ok said
  pub may : MayCome setting s said

-- from line `number` of a text on, lines come to the one with this number, and P holds of where the workers then stand and of it
pub record StopsAt (P : System → Piece → Type 0) (setting : Setting) (first : System) (number : ℕ) (text : List ℕ) (at : ℕ) : Type 0 where
  pub lines : List (List ℕ)
  pub last : System
  pub run : LinesRun setting first lines last
  pub piece : Piece
  pub more : List Piece
  pub pieces_are : pieces text ≡ map finished lines ++ piece ∷ more
  pub number_is : at ≡ number + length lines
  pub holds : P last piece

-- of a finished line
abbrev pub OfLine : (System → List ℕ → Type 0) → System → Piece → Type 0
OfLine P s (finished line) = P s line
OfLine P s (unfinished line) = ⊥

-- the text ends before the schedule does
pub record IsCutShort (setting : Setting) (first : System) (text : List ℕ) : Type 0 where
  pub lines : List (List ℕ)
  pub last : System
  pub run : LinesRun setting first lines last
  pub pieces_are : pieces text ≡ map finished lines

-- the lines of the text that are whole were carried out, and none of them ends the schedule
pub record IsUsedUp (setting : Setting) (first : System) (text : List ℕ) : Type 0 where
  pub lines : List (List ℕ)
  pub last : System
  pub run : LinesRun setting first lines last
  pub lines_are : whole_lines (pieces text) ≡ map finished lines

-- the fault is that of a line, or of line `start`, which began the schedule
pub data StopsWith (setting : Setting) (first : System) (start : ℕ) (text : List ℕ) (at : ℕ) : ScheduleKind → Type 0 where
  faulty : {kind : ScheduleKind} → StopsAt (OfLine (λ s line. IsFaulty setting s line kind)) setting first (start + 1) text at → StopsWith setting first start text at kind
  cut_short : at ≡ start → IsCutShort setting first text → StopsWith setting first start text at UnfinishedSchedule
