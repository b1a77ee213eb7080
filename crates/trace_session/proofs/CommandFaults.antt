-- A command that writes nothing, or that wants no blocks, as one of all commands.
use Rattle.std.proofs.Common.{◌≡◌, ℕ, [], Option, Some, Result, Ok, Err}
use Rattle.std.specs.Prelude.{OnOk, OnErr, IfErr, IsOk}
use Rattle.heap_text.specs.Streams.{Output}
use Rattle.heap_text.proofs.Streams.{Appends-nil}
use Rattle.model.specs.declared.kind.Kind.{Kind}
use Rattle.model.specs.Config.{Config}
use Rattle.model.specs.Store.{Store}
use Rattle.model.specs.Commands.{Outcome as Stepped}
use Rattle.trace_session.specs.declared.trace_lines.fault.Fault.{Fault}
use Rattle.trace_session.specs.declared.trace_lines.fault.Fault.TheVariants.{BadTrace, BadSchedule, HeapFull, NoMemory, Unsettled, ReadFailed, WriteFailed}
use Rattle.trace_session.specs.Faults.{never, AtFault, UnlessOfWrite}
use Rattle.trace_session.specs.Stepped.{AtEach, StepsTo, StepsQuietly}

-- what was written stays as it is
pub quiet_steps : {X E : Type 0} (r : Result X E) (stands stands' : Config → Store → Type 0) (step : Config → Store → Stepped) (held : Output) → OnOk r (AtEach stands (λ config store. StepsQuietly stands' config (step config store))) → OnOk r (AtEach stands (λ config store. StepsTo stands' config (step config store) held held))
quiet_steps (Ok x) stands stands' step held steps = λ config store at.
    let quiet = steps config store at in
    record { next = quiet.next; out = []; steps = quiet.steps; stands' = quiet.stands'; held = Appends-nil held }
quiet_steps (Err e) stands stands' step held steps = tt

-- no fault says that blocks are wanting
pub never_full : {X : Type 0} (r : Result X Fault) (trace : ℕ → Kind → Type 0) (full memory : Option ℕ → Type 0) (written : Type 0) → IfErr r (AtFault (record never { trace = trace; memory = memory; write = written })) → IfErr r (AtFault (record never { trace = trace; full = full; memory = memory; write = written }))
never_full (Ok x) trace full memory written fault = tt
never_full (Err (BadTrace line kind)) trace full memory written fault = fault
never_full (Err (BadSchedule line kind)) trace full memory written fault = fault
never_full (Err (HeapFull line)) trace full memory written fault = absurd fault
never_full (Err (NoMemory line)) trace full memory written fault = fault
never_full (Err (Unsettled line)) trace full memory written fault = absurd fault
never_full (Err ReadFailed) trace full memory written fault = fault
never_full (Err WriteFailed) trace full memory written fault = fault

module _ {X T : Type 0} (number : ℕ) (before after : T) (same : after ≡ before) (stands : Config → Store → Type 0) (step : Config → Store → Stepped) (full : Option ℕ → Type 0) (written : Type 0) where
  -- and the writer is as before at each fault
  pub quiet_faults : (r : Result X Fault)
      → IfErr r (AtFault (record never { trace = λ at kind. (at ≡ number) × AtEach stands (λ config store. step config store ≡ Err kind); memory = λ at. (at ≡ Some number) × AtEach stands (λ config store. IsOk (step config store)) }))
      → IfErr r (AtFault (record never { trace = λ at kind. (at ≡ number) × AtEach stands (λ config store. step config store ≡ Err kind) × (after ≡ before); full = full; memory = λ at. (at ≡ Some number) × AtEach stands (λ config store. IsOk (step config store)) × (after ≡ before); write = written }))
  quiet_faults (Ok x) fault = tt
  quiet_faults (Err (BadTrace line kind)) fault = (fault.0, fault.1, same)
  quiet_faults (Err (BadSchedule line kind)) fault = absurd fault
  quiet_faults (Err (HeapFull line)) fault = absurd fault
  quiet_faults (Err (NoMemory line)) fault = (fault.0, fault.1, same)
  quiet_faults (Err (Unsettled line)) fault = absurd fault
  quiet_faults (Err ReadFailed) fault = absurd fault
  quiet_faults (Err WriteFailed) fault = absurd fault

-- what holds holds at any fault
pub unless_any : (e : Fault) (fact : Type 0) → fact → UnlessOfWrite e fact
unless_any (BadTrace line kind) fact holds = holds
unless_any (BadSchedule line kind) fact holds = holds
unless_any (HeapFull line) fact holds = holds
unless_any (NoMemory line) fact holds = holds
unless_any (Unsettled line) fact holds = holds
unless_any ReadFailed fact holds = holds
unless_any WriteFailed fact holds = tt

-- what holds at each fault holds where it was no write's
pub as_before : {X : Type 0} (r : Result X Fault) (fact : Type 0) → OnErr r fact → IfErr r (λ e. UnlessOfWrite e fact)
as_before (Ok x) fact holds = tt
as_before (Err e) fact holds = unless_any e fact holds

-- and so does what holds always
pub as_ever : {X : Type 0} (r : Result X Fault) (fact : Type 0) → fact → IfErr r (λ e. UnlessOfWrite e fact)
as_ever (Ok x) fact holds = tt
as_ever (Err e) fact holds = unless_any e fact holds
