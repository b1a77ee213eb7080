-- What is told of words that ask for no run.
use Rattle.std.specs.Prelude.{◌≡◌, ◌≢◌, ⊤, ℕ, List, None, string_bytes}
use Rattle.clap.specs.declared.error.ErrorKind.{ErrorKind}
use Rattle.clap.specs.declared.error.ErrorKind.TheVariants.{DisplayHelp, DisplayVersion, OutOfMemory}
use Rattle.heap_text.specs.Streams.{Output, Appends, AppendsFront}
use Rattle.trace_session.specs.declared.trace_lines.fault.Fault.TheVariants as faults
use Rattle.trace_session.specs.FaultText.{fault_line}
use Rattle.trace_driver.specs.declared.command_line.words.Refused.{Refused}
use Rattle.trace_driver.specs.declared.command_line.words.Refused.TheVariants.{Help, Usage, NoMemory}
use Rattle.trace_driver.specs.Program.{Tells}

-- by the kind of clap's error: help where help or the version is wanted, a mistake where neither is; want of memory is told as what it is
abbrev pub IsToldOf : ErrorKind → Refused → Type 0
IsToldOf kind (Help text) = (kind ≢ OutOfMemory) × ((kind ≢ DisplayHelp) × (kind ≢ DisplayVersion) → ⊥)
IsToldOf kind (Usage text) = (kind ≢ OutOfMemory) × ((kind ≢ DisplayHelp) × (kind ≢ DisplayVersion))
IsToldOf kind NoMemory = ⊤

-- help that is wanted was written, with status 0 and no error told, or a write of it failed
pub data IsHelped (quiet failed_write failed_tell : Type 0) (o o' e e' : Output) (text : List ℕ) : ℕ → Type 0 where
  all : Appends o o' text → quiet → IsHelped quiet failed_write failed_tell o o' e e' text 0
  cut_off : failed_write → AppendsFront o o' text → Tells failed_tell e e' (fault_line faults.WriteFailed) → IsHelped quiet failed_write failed_tell o o' e e' text 4

-- how words that ask for no task end, by the status: a mistake and want of memory are told to the errors, and nothing is written
abbrev pub IsRefusal : Refused → (unwritten quiet failed_write failed_tell : Type 0) → (o o' e e' : Output) → ℕ → Type 0
IsRefusal (Help text) unwritten quiet failed_write failed_tell o o' e e' status = IsHelped quiet failed_write failed_tell o o' e e' (string_bytes text) status
IsRefusal (Usage text) unwritten quiet failed_write failed_tell o o' e e' status = (status ≡ 3) × unwritten × Tells failed_tell e e' (string_bytes text)
IsRefusal NoMemory unwritten quiet failed_write failed_tell o o' e e' status = (status ≡ 1) × unwritten × Tells failed_tell e e' (fault_line (faults.NoMemory None))
