-- What is said of lines at a session's store is said of a whole run.
use Rattle.std.proofs.Common.{◌≡◌, ℕ, ◌+◌, ◌-◌, ◌^◌, List, [], Option, Some, None, Result, Ok, Err, refl, subst}
use Rattle.std.specs.Prelude.{MatchOption, IfErr, OnOk}
use Rattle.heap_text.specs.Streams.{Input, Output, OfInput}
use Rattle.model.specs.Config.{Config}
use Rattle.model.specs.Store.{Store, empty_store}
use Rattle.trace_session.specs.declared.trace_lines.fault.Fault.{Fault}
use Rattle.trace_session.specs.declared.trace_lines.fault.Fault.TheVariants.{BadTrace, BadSchedule, HeapFull, NoMemory, Unsettled, ReadFailed, WriteFailed}
use Rattle.trace_session.specs.CollectsFirst.{IsSoundSoFar}
use Rattle.trace_session.specs.Lines.{LinesValue}
use Rattle.trace_session.specs.Sound.{IsSoundTraceLine}
use Rattle.trace_session.specs.Carried.{Silently, LeavesBefore, LeavesOutput}
use Rattle.trace_session.specs.Stepped.{AtEach}
use Rattle.trace_session.proofs.LineLemmas.{OfInput-map, OfGiven-map}
use Rattle.trace_session.proofs.TextLemmas.{leaves_output}
use Rattle.trace_replay.specs.Refusals.{MayBeFull}
use Rattle.trace_driver.specs.Running.{IsRunDone, IsRunDoneAt, LineWantsBlocks, IsRunFull, IsRunStopped, IsRunStoppedAt}

module _ (stands : Config → Store → Type 0) (config : Config) (begins : stands config (empty_store config)) (i i' : Input) (o o' : Output) where
  done_whole : IsRunDoneAt stands [] i i' o o' → IsRunDone config i i' o o'
  done_whole done = record {
    ended = done.ended;
    prints = OfGiven-map [] i i' done.prints (λ text prints. prints config (empty_store config) begins);
  }

  leaves : (P : Config → Store → List ℕ → List ℕ → Type 0) (none : Type 0) (line : Option ℕ) → OfInput [] i i' (λ text. AtEach stands (λ c store. LeavesBefore (P c) c 1 store text line o o')) → MatchOption line none (λ at. OfInput [] i i' (LeavesOutput (P config) config at o o'))
  leaves P none None of =
      let left = of.holds [] (λ _. refl) config (empty_store config) begins in
      let no : None ≡ Some (1 + left.lines) = left.line_is in
      absurd (cc)
  leaves P none (Some at) of = OfInput-map [] i i' of (λ text before. leaves_output (P config) config text at o o' (before config (empty_store config) begins))

  leaves_at : (P : Config → Store → List ℕ → List ℕ → Type 0) (at : ℕ) → OfInput [] i i' (λ text. AtEach stands (λ c store. LeavesBefore (P c) c 1 store text (Some at) o o')) → OfInput [] i i' (LeavesOutput (P config) config at o o')
  leaves_at P at of = OfInput-map [] i i' of (λ text before. leaves_output (P config) config text at o o' (before config (empty_store config) begins))

  sound_at : (n at : ℕ) → OfInput [] i i' (LeavesOutput (Silently (MayBeFull n config)) config at o o') → OfInput [] i i' (LeavesOutput (Silently (IsSoundTraceLine config)) config at o o')
  sound_at n at of =
      OfInput-map [] i i' of
      (λ text left. record { refused = left.refused; written = left.written; counted = left.counted; there = left.there; sound = left.sound; held = left.held; holds = (left.holds.0.sound, left.holds.1) })

  wants_at : (n at : ℕ) → OfInput [] i i' (LeavesOutput (Silently (MayBeFull n config)) config at o o') → OfInput [] i i' (LineWantsBlocks config n at)
  wants_at n at of = OfInput-map [] i i' of (λ text left. record { text = left.refused; there = left.there; wants = left.holds.0.wants })

  stopped_whole : (n : ℕ) (boxed untouched failed_read failed_write : Type 0) (e : Fault) → IsRunStoppedAt stands n boxed [] (2 ^ 64 - 1) i i' o o' failed_read failed_write e → IsRunStopped config boxed untouched i i' o o' failed_read failed_write e
  stopped_whole n boxed untouched failed_read failed_write (BadTrace line kind) f = OfInput-map [] i i' f (λ text prints. prints config (empty_store config) begins)
  stopped_whole n boxed untouched failed_read failed_write (BadSchedule line kind) f = absurd f
  stopped_whole n boxed untouched failed_read failed_write (HeapFull None) f = leaves (λ c. Silently (MayBeFull n c)) _ None f
  stopped_whole n boxed untouched failed_read failed_write (HeapFull (Some at)) f = sound_at n at (leaves_at (λ c. Silently (MayBeFull n c)) at f)
  stopped_whole n boxed untouched failed_read failed_write (NoMemory line) f = leaves IsSoundSoFar _ line f
  stopped_whole n boxed untouched failed_read failed_write (Unsettled at) f = (f.0, leaves_at (λ c. Silently (IsSoundTraceLine c)) at f.1)
  stopped_whole n boxed untouched failed_read failed_write ReadFailed f = (OfGiven-map [] i i' f.0 (λ text prints. prints config (empty_store config) begins), f.1)
  stopped_whole n boxed untouched failed_read failed_write WriteFailed f = f

  full_whole : (n : ℕ) (boxed failed_read failed_write : Type 0) (e : Fault) → IsRunStoppedAt stands n boxed [] (2 ^ 64 - 1) i i' o o' failed_read failed_write e → IsRunFull config n i i' e
  full_whole n boxed failed_read failed_write (BadTrace line kind) f = tt
  full_whole n boxed failed_read failed_write (BadSchedule line kind) f = tt
  full_whole n boxed failed_read failed_write (HeapFull None) f = tt
  full_whole n boxed failed_read failed_write (HeapFull (Some at)) f = wants_at n at (leaves_at (λ c. Silently (MayBeFull n c)) at f)
  full_whole n boxed failed_read failed_write (NoMemory line) f = tt
  full_whole n boxed failed_read failed_write (Unsettled at) f = tt
  full_whole n boxed failed_read failed_write ReadFailed f = tt
  full_whole n boxed failed_read failed_write WriteFailed f = tt

  -- of the lines of an input of which nothing was read yet
  pub run_done : (lines : LinesValue) (line : List ℕ) → lines ≡ record { pending = []; line = line; reads = 2 ^ 64 - 1 } → {T E : Type 0} (r : Result T E) → OnOk r (IsRunDoneAt stands lines.pending i i' o o') → OnOk r (IsRunDone config i i' o o')
  run_done lines line fresh (Ok x) done = done_whole (subst (λ (v : LinesValue). IsRunDoneAt stands v.pending i i' o o') fresh done)
  run_done lines line fresh (Err e) done = tt

  pub run_stopped : (lines : LinesValue) (line : List ℕ) → lines ≡ record { pending = []; line = line; reads = 2 ^ 64 - 1 } → (n : ℕ) (boxed untouched failed_read failed_write : Type 0) → {T : Type 0} (r : Result T Fault)
      → IfErr r (IsRunStoppedAt stands n boxed lines.pending lines.reads i i' o o' failed_read failed_write) → IfErr r (IsRunStopped config boxed untouched i i' o o' failed_read failed_write)
  run_stopped lines line fresh n boxed untouched failed_read failed_write (Ok x) f = tt
  run_stopped lines line fresh n boxed untouched failed_read failed_write (Err e) f =
      stopped_whole n boxed untouched failed_read failed_write e (subst (λ (v : LinesValue). IsRunStoppedAt stands n boxed v.pending v.reads i i' o o' failed_read failed_write e) fresh f)

  pub run_full : (lines : LinesValue) (line : List ℕ) → lines ≡ record { pending = []; line = line; reads = 2 ^ 64 - 1 } → (n : ℕ) (boxed failed_read failed_write : Type 0) → {T : Type 0} (r : Result T Fault)
      → IfErr r (IsRunStoppedAt stands n boxed lines.pending lines.reads i i' o o' failed_read failed_write) → IfErr r (IsRunFull config n i i')
  run_full lines line fresh n boxed failed_read failed_write (Ok x) f = tt
  run_full lines line fresh n boxed failed_read failed_write (Err e) f =
      full_whole n boxed failed_read failed_write e (subst (λ (v : LinesValue). IsRunStoppedAt stands n boxed v.pending v.reads i i' o o' failed_read failed_write e) fresh f)
