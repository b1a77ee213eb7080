use Rattle.std.proofs.Common.{sum_by, sym, ap, ◌∙◌}
use Rattle.model.specs.Graph.{size_of}
use Rattle.heap_objects.proofs.LargeSizes.{larges_are, count_is}
use Rattle.heap_objects.proofs.objects.HeapObjects.count_large.Goals as goal

pub count_large-requires : goal.count_large-requires
count_large-requires g c = λ n o is. let each = c.self.invariant.each n o is in (each.pointers, each.plain)

pub returns-clause-objects : goal.returns-clause-objects
returns-clause-objects g c = rw (← c.self.view_is) (c.count_large.ensures.objects ∙ sym (count_is _ _ c.self.invariant))

pub returns-clause-words : goal.returns-clause-words
returns-clause-words g c = rw (← c.self.view_is) (c.count_large.ensures.words ∙ ap (sum_by size_of) (sym (larges_are _ _ c.self.invariant)))
