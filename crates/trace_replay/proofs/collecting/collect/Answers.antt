use Rattle.std.proofs.Common.{[], ◌++◌, refl, ap, subst, ◌∙◌, arith}
use Rattle.heap_text.specs.Streams.{Appends}
use Rattle.model.specs.Text.{collection_line}
use Rattle.heap_text.specs.ReportText.{workers_text}
use Rattle.heap_text.specs.CollectionLine.{cause_word}
use Rattle.heap_text.specs.declared.cause.Cause.TheVariants.{Command}
use Rattle.trace_session.proofs.CommandFaults.{unless_any}
use Rattle.trace_session.proofs.LineLemmas.{OfInput-here}
use Rattle.trace_replay.proofs.BySchedule.{no_generation, no_memory_at, fault_of_schedule, no_memory_read, collects_read, later_read}
use Rattle.trace_session.proofs.HandedOn.{handed_on}
use Rattle.trace_replay.proofs.collecting.collect.Goals as goal

pub settled_by_schedule-requires-clause-generation : goal.settled_by_schedule-requires-clause-generation
settled_by_schedule-requires-clause-generation g c = omega (arith, c.if-generation-generations.false, c.generations.ensures.value, ap (λ x. x.shape.generations) c.config.ensures)

pub returns-then-generation-generations-clause-err : goal.returns-then-generation-generations-clause-err
returns-then-generation-generations-clause-err g c = (
  OfInput-here c.args.lines.now (g.S.Source.input c.args.reader.now) (λ text config store stands.
      no_generation c.args.session.now.heap c.args.session.now.names config store stands c.args.generation c.args.workers c.args.number text
      (omega (arith, c.if-generation-generations.true, c.generations.ensures.value, ap (λ x. x.shape.generations) c.config.ensures))),
  refl,
)

pub returns-in_default-clause-err : goal.returns-in_default-clause-err
returns-in_default-clause-err g c = (
  OfInput-here c.args.lines.now (g.S.Source.input c.args.reader.now) (λ text config store stands.
      no_memory_at c.args.session.now.heap c.args.session.now.names config store stands c.args.generation
      (omega (arith, c.if-generation-generations.false, c.generations.ensures.value, ap (λ x. x.shape.generations) c.config.ensures)) c.args.workers c.args.number text),
  refl,
)

pub returns-in_default-clone-clause-err : goal.returns-in_default-clone-clause-err
returns-in_default-clone-clause-err g c = (
  OfInput-here c.args.lines.now (g.S.Source.input c.args.reader.now) (λ text config store stands.
      no_memory_at c.args.session.now.heap c.args.session.now.names config store stands c.args.generation
      (omega (arith, c.if-generation-generations.false, c.generations.ensures.value, ap (λ x. x.shape.generations) c.config.ensures)) c.args.workers c.args.number text),
  refl,
)

pub returns-in_default-clone-2-clause-err : goal.returns-in_default-clone-2-clause-err
returns-in_default-clone-2-clause-err g c = (
  OfInput-here c.args.lines.now (g.S.Source.input c.args.reader.now) (λ text config store stands.
      no_memory_at c.args.session.now.heap c.args.session.now.names config store stands c.args.generation
      (omega (arith, c.if-generation-generations.false, c.generations.ensures.value, ap (λ x. x.shape.generations) c.config.ensures)) c.args.workers c.args.number text),
  refl,
)

pub returns-in_err-settled-clause-err : goal.returns-in_err-settled-clause-err
returns-in_err-settled-clause-err g c =
    handed_on _ _ _ c.from_residual.ensures
    (fault_of_schedule c.args.session.now.heap c.args.session.now.names c.args.generation c.args.workers c.args.number
    (omega (arith, c.if-generation-generations.false, c.generations.ensures.value, ap (λ x. x.shape.generations) c.config.ensures)) c.args.lines.now.pending (g.S.Source.input c.args.reader.now) _ _ _ _ _ refl c.in_err-settled.field-0.0 c.in_err-settled.ensures.err)

pub returns-in_err-settled-clause-before : goal.returns-in_err-settled-clause-before
returns-in_err-settled-clause-before g c =
    handed_on _ _ _ c.from_residual.ensures
    (unless_any c.in_err-settled.field-0.0 _ refl)

pub commit-requires : goal.commit-requires
commit-requires g c = (c.in_ok-settled.ensures.ok.holds []).brought.may_commit

pub returns-in_default-workers_text-clause-err : goal.returns-in_default-workers_text-clause-err
returns-in_default-workers_text-clause-err g c = (
  no_memory_read c.args.session.now c.args.generation c.args.workers c.args.number
      (omega (arith, c.if-generation-generations.false, c.generations.ensures.value, ap (λ x. x.shape.generations) c.config.ensures)) _ _ _ _ _ _ _ _ _ _ c.in_ok-settled.ensures.ok,
  refl,
)

pub returns-in_default-commit-clause-err : goal.returns-in_default-commit-clause-err
returns-in_default-commit-clause-err g c = (
  no_memory_read c.args.session.now c.args.generation c.args.workers c.args.number
      (omega (arith, c.if-generation-generations.false, c.generations.ensures.value, ap (λ x. x.shape.generations) c.config.ensures)) _ _ _ _ _ _ _ _ _ _ c.in_ok-settled.ensures.ok,
  refl,
)

pub returns-in-Ok-write_report-clause-ok : goal.returns-in-Ok-write_report-clause-ok
returns-in-Ok-write_report-clause-ok g c =
    let found = c.in_ok-settled.settled in
    let report = c.in-Ok-commit.report in
    collects_read c.args.session.now c.args.generation c.args.workers c.args.number
    (omega (arith, c.if-generation-generations.false, c.generations.ensures.value, ap (λ x. x.shape.generations) c.config.ensures)) _ _ _ _ _ _ _ _ _ _ c.in_ok-settled.ensures.ok
    _ refl report.kept report.freed c.in-Ok-commit.ensures.ok c.in-Ok-commit.ensures.kept c.in-Ok-commit.ensures.won c.in-Ok-commit.ensures.freed _ _
    (subst (λ lines. Appends (g.W.Sink.output c.args.writer.now) (g.W.Sink.output c.write_report.new.writer) (collection_line (cause_word Command) c.args.generation report.kept report.freed ++ lines)) (c.as_str.ensures.value ∙ c.in-Ok-workers_text.ensures ∙ ap (λ ws. workers_text ws c.as_slice-taken.result.now) c.as_slice-won.ensures.value ∙ ap (λ ds. workers_text found.workers.items ds) c.as_slice-taken.ensures.value) c.in-Ok-write_report.ensures.bytes)

pub returns-in-Ok-write_report-clause-later : goal.returns-in-Ok-write_report-clause-later
returns-in-Ok-write_report-clause-later g c =
    later_read c.args.session.now c.args.generation c.args.workers c.args.number
    (omega (arith, c.if-generation-generations.false, c.generations.ensures.value, ap (λ x. x.shape.generations) c.config.ensures)) _ _ _ _ _ _ _ _ _ _ c.in_ok-settled.ensures.ok

pub overflow_add-result : goal.overflow_add-result
overflow_add-result g c = omega (arith, c.in_ok-settled.ensures.left, c.requires.room)
