use Rattle.std.proofs.Common.{Err, inl, refl, ap}
use Rattle.trace_session.proofs.LineLemmas.{OfInput-here}
use Rattle.trace_replay.proofs.FromMachine.{fault_at_heap, brings_read, not_all_ended_read, no_memory_read}
use Rattle.trace_session.proofs.HandedOn.{handed_on}
use Rattle.trace_replay.proofs.schedules.brought.settled_by_schedule.Goals as goal

pub returns-in-Err-NoMemory-clause-err : goal.returns-in-Err-NoMemory-clause-err
returns-in-Err-NoMemory-clause-err g c = OfInput-here c.args.lines.now (g.S.Source.input c.args.reader.now) (λ text. inl refl)

pub returns-in_err-commit-clause-err : goal.returns-in_err-commit-clause-err
returns-in_err-commit-clause-err g c =
    handed_on _ _ _ c.from_residual.ensures
    (fault_at_heap c.args.heap.now c.args.generation c.args.workers _ c.in-Ok.ensures.ok c.args.start _ _ _ _ c.in_err-commit.field-0.0 c.in_err-commit.ensures.err)

pub returns-in-Ok-settle-clause-ok : goal.returns-in-Ok-settle-clause-ok
returns-in-Ok-settle-clause-ok g c =
    brings_read c.args.heap.now c.args.generation c.args.workers _ c.in-Ok.ensures.ok _ c.in_ok-commit.ensures.same c.args.start _ _ _ _ _ c.in_ok-commit.ensures.ok _ _ _ _ _ c.in-Ok-settle.ensures.ok

pub returns-in-Err-NotEnded-clause-err : goal.returns-in-Err-NotEnded-clause-err
returns-in-Err-NotEnded-clause-err g c =
    not_all_ended_read c.args.heap.now c.args.generation c.args.workers _ c.in-Ok.ensures.ok _ c.in_ok-commit.ensures.same c.args.start _ _ _ _ _ c.in_ok-commit.ensures.ok
    (c.in-Err-NotEnded.ensures.ended.0 (ap (λ e. Err e) c.in-Err-NotEnded.field-0-is))

pub returns-in-Err-NoMemory-settle-clause-err : goal.returns-in-Err-NoMemory-settle-clause-err
returns-in-Err-NoMemory-settle-clause-err g c =
    no_memory_read c.args.heap.now c.args.generation c.args.workers _ c.in-Ok.ensures.ok _ c.in_ok-commit.ensures.same c.args.start _ _ _ _ _ c.in_ok-commit.ensures.ok
    (λ not_all. let is = c.in-Err-NoMemory-settle.ensures.ended.1 not_all in let f = c.in-Err-NoMemory-settle.field-0-is in cc)
