-- One line of a schedule: what is read from its bytes, or its first fault.
use Rattle.std.specs.Prelude.{ℕ, nat_lt, List, [], ◌∷◌, length, Result, Ok, Err, if◌then◌else◌, codes}
use Rattle.std.specs.Str.{bytes_eq}
use Rattle.model.specs.declared.kind.Kind.{Kind}
use Rattle.model.specs.declared.kind.Kind.TheVariants.{LineTooLong}
use Rattle.trace_text.specs.Words.{words}
use Rattle.trace_text.specs.Grammar.{◌>>=◌, number_of, is_comment, without_return}
use Rattle.trace_text.specs.declared.schedule.ScheduleEvent.{ScheduleEvent}
use Rattle.trace_text.specs.declared.schedule.ScheduleEvent.TheVariants.{Look, Race, Scan, Export, Take, Own, OwnLarge, Idle, Wake, End}
use Rattle.trace_text.specs.declared.schedule.ScheduleLine.{ScheduleLine}
use Rattle.trace_text.specs.declared.schedule.ScheduleLine.TheVariants as lines
use Rattle.trace_text.specs.declared.schedule.ScheduleKind.{ScheduleKind}
use Rattle.trace_text.specs.declared.schedule.ScheduleKind.TheVariants.{UnknownEvent, WrongWords, BadNumber}
use Rattle.trace_text.specs.declared.schedule.LineFault.{LineFault}
use Rattle.trace_text.specs.declared.schedule.LineFault.TheVariants as faults

abbrev pub or_bad : Result ℕ Kind → Result ℕ ScheduleKind
or_bad (Ok n) = Ok n
or_bad (Err kind) = Err BadNumber

-- any number that a word of a trace may be
abbrev pub any_of : List ℕ → Result ℕ ScheduleKind
any_of word = or_bad (number_of word)

-- an event of one worker alone
unfoldable pub worker_of : List (List ℕ) → Result ℕ ScheduleKind
worker_of (t ∷ []) = any_of t
worker_of _ = Err WrongWords

unfoldable pub take_of : List (List ℕ) → Result ScheduleEvent ScheduleKind
take_of (t ∷ u ∷ []) = do
  taker ← any_of t
  exporter ← any_of u
  Ok (Take taker exporter)
take_of _ = Err WrongWords

-- of a destination, or of a large object
abbrev pub owned_of : ℕ → List ℕ → Result ScheduleEvent ScheduleKind
owned_of worker word = if bytes_eq word (codes "large") then Ok (OwnLarge worker) else (any_of word >>= λ destination. Ok (Own worker destination))

unfoldable pub own_of : List (List ℕ) → Result ScheduleEvent ScheduleKind
own_of (t ∷ d ∷ []) = any_of t >>= λ worker. owned_of worker d
own_of _ = Err WrongWords

abbrev pub by : (ℕ → ScheduleEvent) → List (List ℕ) → Result ScheduleEvent ScheduleKind
by event rest = worker_of rest >>= λ worker. Ok (event worker)

-- the words after the event's
unfoldable pub event_of : List ℕ → List (List ℕ) → Result ScheduleEvent ScheduleKind
event_of word rest =
    if bytes_eq word (codes "look") then by Look rest
    else (if bytes_eq word (codes "race") then by Race rest
    else (if bytes_eq word (codes "scan") then by Scan rest
    else (if bytes_eq word (codes "export") then by Export rest
    else (if bytes_eq word (codes "take") then take_of rest
    else (if bytes_eq word (codes "own") then own_of rest
    else (if bytes_eq word (codes "idle") then by Idle rest
    else (if bytes_eq word (codes "wake") then by Wake rest
    else (if bytes_eq word (codes "end") then by End rest
    else Err UnknownEvent))))))))

-- no word may follow
abbrev pub alone : ScheduleLine → List (List ℕ) → Result ScheduleLine ScheduleKind
alone line [] = Ok line
alone line _ = Err WrongWords

unfoldable pub schedule_of : List ℕ → List (List ℕ) → Result ScheduleLine ScheduleKind
schedule_of word rest =
    if bytes_eq word (codes "finish") then alone lines.Finish rest
    else (if bytes_eq word (codes "commit") then alone lines.Commit rest
    else (event_of word rest >>= λ event. Ok (lines.Event event)))

abbrev pub as_fault : Result ScheduleLine ScheduleKind → Result ScheduleLine LineFault
as_fault (Ok line) = Ok line
as_fault (Err kind) = Err (faults.Schedule kind)

-- a line without words and a comment say nothing
abbrev pub schedule_of_words : List (List ℕ) → Result ScheduleLine LineFault
schedule_of_words [] = Ok lines.Nothing
schedule_of_words (first ∷ rest) = if is_comment first then Ok lines.Nothing else as_fault (schedule_of first rest)

-- a line without its line feed
unfoldable pub schedule_line_of : List ℕ → Result ScheduleLine LineFault
schedule_line_of line = if nat_lt 4096 (length line) then Err (faults.Trace LineTooLong) else schedule_of_words (words (without_return line))
