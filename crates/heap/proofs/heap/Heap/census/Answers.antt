use Rattle.std.proofs.Common.{map, sym, ◌∙◌}
use Rattle.std.specs.FinMap.{len}
use Rattle.steps.specs.CensusView.{step_value}
use Rattle.heap.specs.Roots.{roots_map}
use Rattle.heap.proofs.RootMap.{len-roots}
use Rattle.heap.proofs.HeapLemmas.{census_is}
use Rattle.heap.proofs.WithSets.{closed_in}
use Rattle.heap.proofs.heap.Heap.census.Goals as goal

pub count_remembered-requires : goal.count_remembered-requires
count_remembered-requires g c = closed_in c.self.inside.objects c.self.inside.roots.slots c.self.inside.remembered c.self.invariant.closed

pub returns : goal.returns
returns g c =
    let roots = c.len.ensures ∙ sym (len-roots c.self.inside.roots.slots) in
    rw (← c.self.view_is, c.new.ensures, roots)
    (sym (census_is c.self.inside.objects.config c.self.inside.objects.objects (len (roots_map c.self.inside.roots.slots)) c.count_remembered.result c.count_large.result.objects c.count_large.result.words (map step_value c.step_counts-steps.result.items) c.step_counts-steps.ensures c.count_large.ensures.objects c.count_large.ensures.words c.count_remembered.ensures))
