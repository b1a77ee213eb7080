-- What the program does with the options of its command line, and how it ends.
use Rattle.std.specs.Prelude.{◌≡◌, ℕ, ◌<◌, ◌≤◌, ◌≢◌, List, codes}
use Rattle.heap_text.specs.Streams.{Input, Output, Appends, AppendsFront}
use Rattle.model.specs.Config.{Config}
use Rattle.heap.specs.ConfigRange.{IsInRange, sizes_of}
use Rattle.collector.specs.declared.apart.CellKind.TheVariants.{Box}
use Rattle.trace_session.specs.declared.trace_lines.fault.Fault.{Fault}
use Rattle.trace_session.specs.FaultText.{fault_line, status_of}
use Rattle.trace_driver.specs.declared.command_line.words.Options.{Options}
use Rattle.trace_driver.specs.declared.command_line.words.Task.{Task}
use Rattle.trace_driver.specs.declared.command_line.words.Task.TheVariants.{Run, Replay}
use Rattle.trace_replay.specs.ReplayStops.{IsReplayDone, IsReplayStopped}
use Rattle.trace_driver.specs.Running.{IsRunDone, IsRunFull, IsRunStopped}

-- the sizes that were asked for
abbrev pub config_of : Options → Config
config_of o = sizes_of o.sizes

-- each number is in its range
abbrev pub AreInRange : Options → Type 0
AreInRange o = IsInRange (config_of o) × ((0 < o.threads) × (o.threads ≤ 16))

-- what is so of each task
abbrev pub ByTask : Task → Type 0 → Type 0 → Type 0
ByTask Run run replay = run
ByTask Replay run replay = replay

-- the task was carried out to the end
abbrev pub IsTaskDone : Options → (i i' : Input) (o o' : Output) → Type 0
IsTaskDone options i i' o o' = ByTask options.task (IsRunDone (config_of options) i i' o o') (IsReplayDone (config_of options) options.threads i i' o o')

-- it stopped for this reason
abbrev pub IsTaskStopped : Options → (untouched : Type 0) → (i i' : Input) (o o' : Output) → (failed_read failed_write : Type 0) → Fault → Type 0
IsTaskStopped options untouched i i' o o' failed_read failed_write fault = ByTask options.task
    (IsRunFull (config_of options) options.threads i i' fault × IsRunStopped (config_of options) ((options.cells ≡ Box) × (options.threads ≢ 1)) untouched i i' o o' failed_read failed_write fault)
    (IsReplayStopped (config_of options) options.threads untouched i i' o o' failed_read failed_write fault)

-- a text was written, or a write of it failed after a front of it
pub data Tells (failed : Type 0) (e e' : Output) (text : List ℕ) : Type 0 where
  all : Appends e e' text → Tells failed e e' text
  cut_off : failed → AppendsFront e e' text → Tells failed e e' text

-- how a task with these options ends, by its status, with what was read, what was written, and what the errors were told
pub data TaskEnds (options : Options) (untouched quiet failed_read failed_write failed_tell : Type 0) (i i' : Input) (o o' e e' : Output) : ℕ → Type 0 where
  done : AreInRange options → IsTaskDone options i i' o o' → quiet → TaskEnds options untouched quiet failed_read failed_write failed_tell i i' o o' e e' 0
  stopped : (fault : Fault) → AreInRange options → IsTaskStopped options untouched i i' o o' failed_read failed_write fault → Tells failed_tell e e' (fault_line fault) → TaskEnds options untouched quiet failed_read failed_write failed_tell i i' o o' e e' (status_of fault)
  out_of_range : ¬ AreInRange options → untouched → Tells failed_tell e e' (codes "gctrace: bad configuration\n") → TaskEnds options untouched quiet failed_read failed_write failed_tell i i' o o' e e' 3
