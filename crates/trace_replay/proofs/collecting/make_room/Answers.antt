use Rattle.std.proofs.Common.{◌++◌, ap, subst, ◌∙◌, arith}
use Rattle.heap_text.specs.Streams.{Appends}
use Rattle.model.specs.Text.{collection_line}
use Rattle.heap_text.specs.ReportText.{workers_text}
use Rattle.heap_text.specs.CollectionLine.{cause_word}
use Rattle.heap_text.specs.declared.cause.Cause.TheVariants.{FullNursery}
use Rattle.trace_replay.proofs.ByRoom.{room_made}
use Rattle.trace_replay.proofs.collecting.make_room.Goals as goal

pub settled_by_itself-requires-clause-generation : goal.settled_by_itself-requires-clause-generation
settled_by_itself-requires-clause-generation g c = omega (arith, c.generations-generations.ensures.in_range.some_generation, ap (λ x. x.shape.generations) c.config.ensures)

pub returns-in-Ok-write_report-clause-ok : goal.returns-in-Ok-write_report-clause-ok
returns-in-Ok-write_report-clause-ok g c = λ config store stands.
    let report = c.in-Ok-commit.report in
    room_made _ _ _ _ _ _ _ c.in_ok-settled.ensures.ok report.kept report.freed c.commit.new.self c.in-Ok-commit.ensures.ok c.in-Ok-commit.ensures.kept c.in-Ok-commit.ensures.won c.in-Ok-commit.ensures.freed
    _ config store stands _ _
    (subst (λ lines. Appends (g.W.Sink.output c.args.writer.now) (g.W.Sink.output c.write_report.new.writer) (collection_line (cause_word FullNursery) 0 report.kept report.freed ++ lines)) (c.as_str.ensures.value ∙ c.in-Ok-workers_text.ensures ∙ ap (λ ws. workers_text ws c.as_slice-taken.result.now) c.as_slice-won.ensures.value ∙ ap (λ ds. workers_text c.in_ok-settled.settled.workers.items ds) c.as_slice-taken.ensures.value) c.in-Ok-write_report.ensures.bytes)
