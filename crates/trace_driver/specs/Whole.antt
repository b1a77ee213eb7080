-- How the program ends: by the words of its command line, or where these can't be had.
use Rattle.std.specs.Prelude.{◌≡◌, ◌≢◌, ◌⊎◌, ℕ, List, None, codes}
use Rattle.std.specs.declared.io.ErrorKind.{ErrorKind}
use Rattle.std.specs.declared.io.ErrorKind.TheVariants.{OutOfMemory}
use Rattle.clap.specs.Walk.{Text}
use Rattle.heap_text.specs.Streams.{Input, Output}
use Rattle.trace_session.specs.declared.trace_lines.fault.Fault.TheVariants as faults
use Rattle.trace_session.specs.FaultText.{fault_line}
use Rattle.trace_driver.specs.declared.command_line.words.Options.{Options}
use Rattle.trace_driver.specs.declared.command_line.words.Refused.{Refused}
use Rattle.trace_driver.specs.declared.whole.NoWords.{NoWords}
use Rattle.trace_driver.specs.declared.whole.NoWords.TheVariants.{NoMemory, NoText}
use Rattle.trace_driver.specs.Asked.{AreAskedBy, AreToldOf}
use Rattle.trace_driver.specs.Program.{Tells, TaskEnds}
use Rattle.trace_driver.specs.Refusals.{IsRefusal}

-- by these words: it ends as a task does with the options that they ask for; or they are refused, nothing is read, and why is told
abbrev pub EndsBy : List Text → (unread unwritten quiet failed_read failed_write failed_tell : Type 0) → (i i' : Input) (o o' e e' : Output) → ℕ → Type 0
EndsBy words unread unwritten quiet failed_read failed_write failed_tell i i' o o' e e' status =
    ((options : Options) × AreAskedBy words options × TaskEnds options (unwritten × unread) quiet failed_read failed_write failed_tell i i' o o' e e' status)
    ⊎ (unread × ((refused : Refused) × AreToldOf words refused × IsRefusal refused unwritten quiet failed_write failed_tell o o' e e' status))

-- why there are no words, by the kind of the system's error
abbrev pub IsWhy : ErrorKind → NoWords → Type 0
IsWhy kind why = (kind ≡ OutOfMemory → why ≡ NoMemory) × (kind ≢ OutOfMemory → why ≡ NoText)

-- without words: the status, and what is told
abbrev pub EndsWithout : NoWords → (failed_tell : Type 0) → (e e' : Output) → ℕ → Type 0
EndsWithout NoMemory failed_tell e e' status = (status ≡ 1) × Tells failed_tell e e' (fault_line (faults.NoMemory None))
EndsWithout NoText failed_tell e e' status = (status ≡ 3) × Tells failed_tell e e' (codes "gctrace: the words are no text\n")
