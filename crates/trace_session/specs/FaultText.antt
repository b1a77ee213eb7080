-- The line of a fault.
use Rattle.std.specs.Prelude.{ℕ, List, [], ◌++◌, Option, Some, None, decimal, codes}
use Rattle.model.specs.declared.kind.Kind.{Kind}
use Rattle.model.specs.declared.kind.Kind.TheVariants as kinds
use Rattle.trace_text.specs.declared.schedule.ScheduleKind.{ScheduleKind}
use Rattle.trace_text.specs.declared.schedule.ScheduleKind.TheVariants as schedules
use Rattle.trace_session.specs.declared.trace_lines.fault.Fault.{Fault}
use Rattle.trace_session.specs.declared.trace_lines.fault.Fault.TheVariants as faults

abbrev pub kind_text : Kind → List ℕ
kind_text kinds.UnfinishedLine = codes "unfinished line"
kind_text kinds.LineTooLong = codes "line too long"
kind_text kinds.UnknownCommand = codes "unknown command"
kind_text kinds.WrongWords = codes "wrong number of words"
kind_text kinds.BadName = codes "bad name"
kind_text kinds.BadNumber = codes "bad number"
kind_text kinds.NameInUse = codes "name in use"
kind_text kinds.UnknownName = codes "unknown name"
kind_text kinds.NoField = codes "no such field"
kind_text kinds.NilPointer = codes "nil pointer"
kind_text kinds.NoMutator = codes "no such mutator"
kind_text kinds.TooBig = codes "too big"
kind_text kinds.NoGeneration = codes "no such generation"

abbrev pub schedule_kind_text : ScheduleKind → List ℕ
schedule_kind_text schedules.UnknownEvent = codes "unknown event"
schedule_kind_text schedules.WrongWords = codes "wrong number of words"
schedule_kind_text schedules.BadNumber = codes "bad number"
schedule_kind_text schedules.NotLawful = codes "event not lawful"
schedule_kind_text schedules.NotEnded = codes "collection not ended"
schedule_kind_text schedules.UnfinishedSchedule = codes "unfinished schedule"

-- the line that was being carried out, or was read as a line
abbrev pub line_of : Fault → Option ℕ
line_of (faults.BadTrace line kind) = Some line
line_of (faults.BadSchedule line kind) = Some line
line_of (faults.HeapFull line) = line
line_of (faults.NoMemory line) = line
line_of (faults.Unsettled line) = Some line
line_of faults.ReadFailed = None
line_of faults.WriteFailed = None

abbrev pub plain_text : Fault → List ℕ
plain_text (faults.BadTrace line kind) = kind_text kind
plain_text (faults.BadSchedule line kind) = schedule_kind_text kind
plain_text (faults.HeapFull line) = codes "heap full"
plain_text (faults.NoMemory line) = codes "no memory"
plain_text (faults.Unsettled line) = codes "cells unsettled"
plain_text faults.ReadFailed = codes "read failed"
plain_text faults.WriteFailed = codes "write failed"

abbrev pub place_text : Option ℕ → List ℕ
place_text None = []
place_text (Some line) = codes "line " ++ decimal line ++ codes ": "

-- the line that tells of a fault
abbrev pub fault_line : Fault → List ℕ
fault_line fault = codes "gctrace: " ++ place_text (line_of fault) ++ plain_text fault ++ codes "\n"

-- the status of a program that stops so: 1 where blocks or memory are wanting or cells are unsettled, 2 for a faulty line, 4 for a failed read or write
abbrev pub status_of : Fault → ℕ
status_of (faults.BadTrace line kind) = 2
status_of (faults.BadSchedule line kind) = 2
status_of (faults.HeapFull line) = 1
status_of (faults.NoMemory line) = 1
status_of (faults.Unsettled line) = 1
status_of faults.ReadFailed = 4
status_of faults.WriteFailed = 4
