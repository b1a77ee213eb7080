-- A command that takes no memory, as one of all commands.
use Rattle.std.proofs.Common.{Result, Ok, Err, ℕ, Option}
use Rattle.std.specs.Prelude.{IfErr}
use Rattle.model.specs.declared.kind.Kind.{Kind}
use Rattle.trace_session.specs.declared.trace_lines.fault.Fault.{Fault}
use Rattle.trace_session.specs.declared.trace_lines.fault.Fault.TheVariants.{BadTrace, BadSchedule, HeapFull, NoMemory, Unsettled, ReadFailed, WriteFailed}
use Rattle.trace_session.specs.Faults.{never, AtFault}

-- no fault says that memory is wanting
pub never_wanting : {X : Type 0} (r : Result X Fault) (trace : ℕ → Kind → Type 0) (full memory : Option ℕ → Type 0) (written : Type 0) → IfErr r (AtFault (record never { trace = trace; full = full; write = written })) → IfErr r (AtFault (record never { trace = trace; full = full; memory = memory; write = written }))
never_wanting (Ok x) trace full memory written fault = tt
never_wanting (Err (BadTrace line kind)) trace full memory written fault = fault
never_wanting (Err (BadSchedule line kind)) trace full memory written fault = fault
never_wanting (Err (HeapFull line)) trace full memory written fault = fault
never_wanting (Err (NoMemory line)) trace full memory written fault = absurd fault
never_wanting (Err (Unsettled line)) trace full memory written fault = absurd fault
never_wanting (Err ReadFailed) trace full memory written fault = fault
never_wanting (Err WriteFailed) trace full memory written fault = fault
