use Rattle.std.proofs.Common.{map, refl, sym, ap, subst, ◌∙◌}
use Rattle.heap_text.specs.Streams.{Appends}
use Rattle.std.proofs.lemmas.Bool.{true≢false}
use Rattle.heap_text.specs.HeapLines.{name_value, heap_lines}
use Rattle.trace_session.proofs.HeapSteps.{all_rooted, steps_heap}
use Rattle.trace_session.proofs.trace_prints.printing.show_heap.Goals as goal

pub returns-then-not-are_rooted-clause-err : goal.returns-then-not-are_rooted-clause-err
returns-then-not-are_rooted-clause-err g c = (
  refl,
  λ config store stands.
      let rooted = all_rooted _ _ config store stands c.in-Ok-list.ensures.sorted name_value c.deref.result.now (ap (map name_value) c.deref.ensures.value ∙ c.in-Ok-list.ensures.names) in
      absurd (true≢false (sym rooted ∙ sym c.are_rooted.ensures ∙ c.if-not-are_rooted.true)),
  refl,
)

pub returns-in-Ok-write_heap-clause-ok : goal.returns-in-Ok-write_heap-clause-ok
returns-in-Ok-write_heap-clause-ok g c = λ config store stands.
    steps_heap _ _ config store stands c.in-Ok-list.ensures.sorted _ _
    (subst (λ names. Appends (g.W.Sink.output c.args.writer.now) (g.W.Sink.output c.write_heap.new.writer) (heap_lines c.args.session.now.heap.graph names))
    (ap (map name_value) c.deref-2.ensures.value ∙ c.in-Ok-list.ensures.names) c.in-Ok-write_heap.ensures.bytes)
