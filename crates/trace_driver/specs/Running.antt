-- How a run of a trace without schedules ends.
use Rattle.std.specs.Prelude.{◌≡◌, ℕ, ◌-◌, ◌*◌, ◌^◌, ◌<◌, ◌⊎◌, List, [], Some, None, MatchOption, IsTrue, slice_get}
use Rattle.heap_text.specs.Streams.{Input, Output, OfGiven, OfInput}
use Rattle.model.specs.Config.{Config}
use Rattle.model.specs.Store.{Store}
use Rattle.trace_session.specs.declared.trace_lines.fault.Fault.{Fault}
use Rattle.trace_session.specs.declared.trace_lines.fault.Fault.TheVariants.{HeapFull}
use Rattle.trace_session.specs.CollectsFirst.{IsSoundSoFar}
use Rattle.trace_text.specs.Grammar.{entry_of}
use Rattle.trace_session.specs.Faults.{never, AtFault}
use Rattle.trace_session.specs.Pieces.{finished, pieces, whole_lines}
use Rattle.trace_session.specs.Outcome.{outcome, outcome_from, outcome_before}
use Rattle.trace_session.specs.Sound.{IsSoundTraceLine}
use Rattle.trace_session.specs.Lines.{IsOutOfReads}
use Rattle.trace_session.specs.Carried.{Silently, LeavesBefore, LeavesOutput, Prints, PrintsWholeLines}
use Rattle.trace_session.specs.Stepped.{AtEach}
use Rattle.trace_replay.specs.Refusals.{MayBeFull, ReadWantsBlocks}

-- reads came to the end of a text, and what was written is all that it means
pub record IsRunDone (config : Config) (i i' : Input) (o o' : Output) : Type 0 where
  pub ended : IsTrue i'.ended
  pub prints : OfGiven [] i i' (λ text. Prints (outcome config text) None o o')

-- why a run stops, and what was then written of each text that begins with what was read: where blocks or memory run out or cells are not
-- settled, a line without a fault was not carried out; nothing was touched before the first read, and only boxed cells may be unsettled
abbrev pub IsRunStopped : Config → (boxed untouched : Type 0) → (i i' : Input) (o o' : Output) → (failed_read failed_write : Type 0) → Fault → Type 0
IsRunStopped config boxed untouched i i' o o' failed_read failed_write fault = AtFault (record never {
  trace = λ line kind. OfInput [] i i' (λ text. Prints (outcome config text) (Some (line, kind)) o o');
  full = λ line. MatchOption line ((config.blocks < config.mutators * config.nursery_blocks) × untouched) (λ at. OfInput [] i i' (LeavesOutput (Silently (IsSoundTraceLine config)) config at o o'));
  memory = λ line. MatchOption line untouched (λ at. OfInput [] i i' (LeavesOutput (IsSoundSoFar config) config at o o'));
  unsettled = λ at. boxed × OfInput [] i i' (LeavesOutput (Silently (IsSoundTraceLine config)) config at o o');
  read = OfGiven [] i i' (PrintsWholeLines config o o') × (failed_read ⊎ IsOutOfReads (2 ^ 64 - 1) i i');
  write = failed_write;
}) fault

-- the line wants blocks at the store before it, where n workers collect
pub record LineWantsBlocks (config : Config) (n line : ℕ) (input : List ℕ) : Type 0 where
  pub text : List ℕ
  pub there : slice_get (pieces input) (line - 1) ≡ Some (finished text)
  pub wants : ReadWantsBlocks n config (outcome_before config line input).store (entry_of text)

-- the line at which a run stops for want of blocks wants them
abbrev pub IsRunFull : Config → ℕ → (i i' : Input) → Fault → Type 0
IsRunFull config n i i' (HeapFull (Some line)) = OfInput [] i i' (LineWantsBlocks config n line)
IsRunFull config n i i' _ = Unit {0}

-- the same of lines that begin at any store for which a session stands, with bytes that were read before
pub record IsRunDoneAt (stands : Config → Store → Type 0) (front : List ℕ) (i i' : Input) (o o' : Output) : Type 0 where
  pub ended : IsTrue i'.ended
  pub prints : OfGiven front i i' (λ text. AtEach stands (λ config store. Prints (outcome_from config 1 store (pieces text)) None o o'))

abbrev pub IsRunStoppedAt : (Config → Store → Type 0) → ℕ → (boxed : Type 0) → List ℕ → ℕ → (i i' : Input) (o o' : Output) → (failed_read failed_write : Type 0) → Fault → Type 0
IsRunStoppedAt stands n boxed front reads i i' o o' failed_read failed_write fault = AtFault (record never {
  trace = λ line kind. OfInput front i i' (λ text. AtEach stands (λ config store. Prints (outcome_from config 1 store (pieces text)) (Some (line, kind)) o o'));
  full = λ line. OfInput front i i' (λ text. AtEach stands (λ config store. LeavesBefore (Silently (MayBeFull n config)) config 1 store text line o o'));
  memory = λ line. OfInput front i i' (λ text. AtEach stands (λ config store. LeavesBefore (IsSoundSoFar config) config 1 store text line o o'));
  unsettled = λ at. boxed × OfInput front i i' (λ text. AtEach stands (λ config store. LeavesBefore (Silently (IsSoundTraceLine config)) config 1 store text (Some at) o o'));
  read = OfGiven front i i' (λ text. AtEach stands (λ config store. Prints (outcome_from config 1 store (whole_lines (pieces text))) None o o')) × (failed_read ⊎ IsOutOfReads reads i i');
  write = failed_write;
}) fault
