-- How a task ends, by its status.
use Rattle.std.proofs.Common.{◌≡◌, ◌≢◌, ℕ, ◌≤◌, List, Result, Ok, Err, sym, subst, arith}
use Rattle.std.specs.Prelude.{OnOk, OnErr, string_bytes}
use Rattle.heap_text.specs.Streams.{Input, Output, Appends, AppendsFront}
use Rattle.model.specs.Config.{Config}
use Rattle.collector.specs.declared.apart.CellKind.{CellKind}
use Rattle.collector.specs.declared.apart.CellKind.TheVariants.{Box}
use Rattle.trace_session.specs.declared.trace_lines.fault.Fault.{Fault}
use Rattle.trace_session.specs.declared.trace_lines.fault.Fault.TheVariants.{BadTrace, BadSchedule, HeapFull, NoMemory, Unsettled, ReadFailed, WriteFailed}
use Rattle.trace_session.specs.FaultText.{fault_line, status_of}
use Rattle.trace_replay.specs.ReplayStops.{IsReplayDone, IsReplayStopped}
use Rattle.trace_driver.specs.declared.command_line.words.Options.{Options}
use Rattle.trace_driver.specs.declared.command_line.words.Task.{Task}
use Rattle.trace_driver.specs.declared.command_line.words.Task.TheVariants.{Run, Replay}
use Rattle.trace_driver.specs.declared.command_line.words.Refused.{Refused}
use Rattle.trace_driver.specs.declared.command_line.words.Refused.TheVariants.{Help, Usage}
use Rattle.trace_driver.specs.declared.command_line.words.Refused.TheVariants as refusals_of
use Rattle.trace_driver.specs.Refusals.{IsRefusal}
use Rattle.trace_driver.specs.Refusals as refusals
use Rattle.trace_driver.specs.Running.{IsRunDone, IsRunFull, IsRunStopped}
use Rattle.trace_driver.specs.Program.{config_of, ByTask, IsTaskDone, IsTaskStopped, Tells, all, cut_off, TaskEnds}

pub tells_of : {T X failed : Type 0} (r : Result T X) (e e' : Output) (text : List ℕ) → OnOk r (Appends e e' text) → OnErr r (AppendsFront e e' text) → OnErr r failed → Tells failed e e' text
tells_of (Ok x) e e' text took front failed = all took
tells_of (Err x) e e' text took front failed = cut_off failed front

pub status_small : (fault : Fault) → status_of fault ≤ 4
status_small (BadTrace line kind) = omega arith
status_small (BadSchedule line kind) = omega arith
status_small (HeapFull line) = omega arith
status_small (NoMemory line) = omega arith
status_small (Unsettled line) = omega arith
status_small ReadFailed = omega arith
status_small WriteFailed = omega arith

by_run : (A B : Type 0) (t : Task) → t ≡ Run → A → ByTask t A B
by_run A B t is a = subst (λ t. ByTask t A B) (sym is) a

by_replay : (A B : Type 0) (t : Task) → t ≡ Replay → B → ByTask t A B
by_replay A B t is b = subst (λ t. ByTask t A B) (sym is) b

module _ (o : Options) (i i' : Input) (w w' : Output) (config : Config) (config_is : config ≡ config_of o) where
  pub run_is_done : o.task ≡ Run → IsRunDone config i i' w w' → IsTaskDone o i i' w w'
  run_is_done is d = by_run _ _ o.task is (subst (λ c. IsRunDone c i i' w w') config_is d)

  pub replay_is_done : o.task ≡ Replay → (n : ℕ) → n ≡ o.threads → IsReplayDone config n i i' w w' → IsTaskDone o i i' w w'
  replay_is_done is n n_is d = by_replay _ _ o.task is (subst (λ c. IsReplayDone c o.threads i i' w w') config_is (subst (λ k. IsReplayDone config k i i' w w') n_is d))

  module _ (n : ℕ) (n_is : n ≡ o.threads) (untouched failed_read failed_write : Type 0) (fault : Fault) where
    pub run_is_stopped : o.task ≡ Run → (kind : CellKind) → kind ≡ o.cells → IsRunFull config n i i' fault → IsRunStopped config ((kind ≡ Box) × (n ≢ 1)) untouched i i' w w' failed_read failed_write fault → IsTaskStopped o untouched i i' w w' failed_read failed_write fault
    run_is_stopped is kind kind_is f s =
        by_run _ _ o.task is (
          subst (λ c. IsRunFull c o.threads i i' fault) config_is (subst (λ k. IsRunFull config k i i' fault) n_is f),
          subst (λ c. IsRunStopped c ((o.cells ≡ Box) × (o.threads ≢ 1)) untouched i i' w w' failed_read failed_write fault) config_is
              (subst (λ k. IsRunStopped config ((o.cells ≡ Box) × (k ≢ 1)) untouched i i' w w' failed_read failed_write fault) n_is
              (subst (λ k. IsRunStopped config ((k ≡ Box) × (n ≢ 1)) untouched i i' w w' failed_read failed_write fault) kind_is s)),
        )

    pub replay_is_stopped : o.task ≡ Replay → IsReplayStopped config n untouched i i' w w' failed_read failed_write fault → IsTaskStopped o untouched i i' w w' failed_read failed_write fault
    replay_is_stopped is s =
        by_replay _ _ o.task is
        (subst (λ c. IsReplayStopped c o.threads untouched i i' w w' failed_read failed_write fault) config_is
        (subst (λ k. IsReplayStopped config k untouched i i' w w' failed_read failed_write fault) n_is s))

-- the same by another term for the status
pub ends_at : (options : Options) (untouched quiet failed_read failed_write failed_tell : Type 0) (i i' : Input) (o o' e e' : Output) (n m : ℕ) → m ≡ n
    → TaskEnds options untouched quiet failed_read failed_write failed_tell i i' o o' e e' n → TaskEnds options untouched quiet failed_read failed_write failed_tell i i' o o' e e' m
ends_at options untouched quiet failed_read failed_write failed_tell i i' o o' e e' n m is ends = subst (TaskEnds options untouched quiet failed_read failed_write failed_tell i i' o o' e e') (sym is) ends

-- ---- words that ask for no task

abbrev IsHelpOf : Refused → List ℕ → Type 0
IsHelpOf (Help text) bytes = bytes ≡ string_bytes text
IsHelpOf (Usage text) bytes = ⊥
IsHelpOf refusals_of.NoMemory bytes = ⊥

pub is_help_of : (refused other : Refused) (bytes : List ℕ) → refused ≡ other → IsHelpOf other bytes → IsHelpOf refused bytes
is_help_of refused other bytes is help = subst (λ r. IsHelpOf r bytes) (sym is) help

module _ (unwritten quiet failed_write failed_tell : Type 0) (o o' e e' : Output) (bytes : List ℕ) where
  pub help_told : (refused : Refused) → IsHelpOf refused bytes → Appends o o' bytes → quiet → IsRefusal refused unwritten quiet failed_write failed_tell o o' e e' 0
  help_told (Help text) is took same = refusals.all (subst (Appends o o') is took) same
  help_told (Usage text) is took same = absurd is
  help_told refusals_of.NoMemory is took same = absurd is

  cut_off_at : (refused : Refused) → IsHelpOf refused bytes → failed_write → AppendsFront o o' bytes → Tells failed_tell e e' (fault_line WriteFailed) → IsRefusal refused unwritten quiet failed_write failed_tell o o' e e' 4
  cut_off_at (Help text) is failed front told = refusals.cut_off failed (subst (AppendsFront o o') is front) told
  cut_off_at (Usage text) is failed front told = absurd is
  cut_off_at refusals_of.NoMemory is failed front told = absurd is

  pub help_cut_off : (refused : Refused) → IsHelpOf refused bytes → failed_write → AppendsFront o o' bytes → Tells failed_tell e e' (fault_line WriteFailed) → (status : ℕ) → status ≡ 4 → IsRefusal refused unwritten quiet failed_write failed_tell o o' e e' status
  help_cut_off refused is failed front told status four = subst (IsRefusal refused unwritten quiet failed_write failed_tell o o' e e') (sym four) (cut_off_at refused is failed front told)
