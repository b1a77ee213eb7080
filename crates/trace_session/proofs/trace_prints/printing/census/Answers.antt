use Rattle.std.proofs.Common.{subst}
use Rattle.heap_text.specs.Streams.{Appends}
use Rattle.model.specs.Text.{census_text}
use Rattle.trace_session.proofs.PrintedSteps.{steps_census}
use Rattle.trace_session.proofs.trace_prints.printing.census.Goals as goal

pub returns-in-Ok-write_census-clause-ok : goal.returns-in-Ok-write_census-clause-ok
returns-in-Ok-write_census-clause-ok g c = λ config store stands.
    steps_census _ _ config store stands _ _
    (subst (λ shown. Appends (g.W.Sink.output c.args.writer.now) (g.W.Sink.output c.write_census.new.writer) (census_text shown)) c.census-census.ensures c.in-Ok-write_census.ensures.bytes)
