use Rattle.std.proofs.Common.{◌≡◌, ◌+◌, inl, map, sym, subst}
use Rattle.std.specs.String.{string_bytes}
use Rattle.trace_driver.specs.Whole.{EndsBy}
use Rattle.trace_driver.proofs.whole.main_of.Goals as goal

pub returns-in-Ok-clause-ends : goal.returns-in-Ok-clause-ends
returns-in-Ok-clause-ends g c =
    inl (
      map string_bytes c.as_slice.result.now,
      subst
          (λ status.
          EndsBy (map string_bytes c.as_slice.result.now) (c.main_with.new.reader ≡ c.args.reader.now) (c.main_with.new.writer ≡ c.args.writer.now) (c.main_with.new.errors ≡ c.args.errors.now)
          (g.S.Source.failed_reads c.main_with.new.reader ≡ g.S.Source.failed_reads c.args.reader.now + 1) (g.W.Sink.failed_writes c.main_with.new.writer ≡ g.W.Sink.failed_writes c.args.writer.now + 1)
          (g.E.Sink.failed_writes c.main_with.new.errors ≡ g.E.Sink.failed_writes c.args.errors.now + 1) (g.S.Source.input c.args.reader.now) (g.S.Source.input c.main_with.new.reader)
          (g.W.Sink.output c.args.writer.now) (g.W.Sink.output c.main_with.new.writer) (g.E.Sink.output c.args.errors.now) (g.E.Sink.output c.main_with.new.errors) status)
          (sym c.from.ensures)
          c.main_with.ensures.ends,
    )
