-- A fact for each fault.
use Rattle.std.specs.Prelude.{ℕ, Option}
use Rattle.model.specs.declared.kind.Kind.{Kind}
use Rattle.trace_text.specs.declared.schedule.ScheduleKind.{ScheduleKind}
use Rattle.trace_session.specs.declared.trace_lines.fault.Fault.{Fault}
use Rattle.trace_session.specs.declared.trace_lines.fault.Fault.TheVariants.{BadTrace, BadSchedule, HeapFull, NoMemory, Unsettled, ReadFailed, WriteFailed}

-- what is so where a command has a fault, a line of a schedule has one, blocks or memory run out, cells are not settled, and a read or a
-- write fails; the first five of the line that the fault tells
pub record FaultCases : Type 1 where
  pub trace : ℕ → Kind → Type 0
  pub schedule : ℕ → ScheduleKind → Type 0
  pub full : Option ℕ → Type 0
  pub memory : Option ℕ → Type 0
  pub unsettled : ℕ → Type 0
  pub read : Type 0
  pub write : Type 0

-- none of them comes
abbrev pub never : FaultCases
never = record { trace = λ _ _. ⊥; schedule = λ _ _. ⊥; full = λ _. ⊥; memory = λ _. ⊥; unsettled = λ _. ⊥; read = ⊥; write = ⊥ }

-- what is so at this fault
abbrev pub AtFault : FaultCases → Fault → Type 0
AtFault cases (BadTrace line kind) = cases.trace line kind
AtFault cases (BadSchedule line kind) = cases.schedule line kind
AtFault cases (HeapFull line) = cases.full line
AtFault cases (NoMemory line) = cases.memory line
AtFault cases (Unsettled line) = cases.unsettled line
AtFault cases ReadFailed = cases.read
AtFault cases WriteFailed = cases.write

-- what holds at each fault but that of a write
abbrev pub UnlessOfWrite : Fault → Type 0 → Type 0
UnlessOfWrite (BadTrace line kind) fact = fact
UnlessOfWrite (BadSchedule line kind) fact = fact
UnlessOfWrite (HeapFull line) fact = fact
UnlessOfWrite (NoMemory line) fact = fact
UnlessOfWrite (Unsettled line) fact = fact
UnlessOfWrite ReadFailed fact = fact
UnlessOfWrite WriteFailed fact = Unit {0}
