use Rattle.std.proofs.Common.{sym, subst}
use Rattle.heap.specs.HeapView.{heap_with}
use Rattle.heap.specs.Whole.{IsWhole}
use Rattle.heap.proofs.HeapLemmas.{empty_view}
use Rattle.heap.proofs.Wholes.{heap_is, whole_empty}
use Rattle.heap.proofs.heap.Heap.empty.Goals as goal

pub invariant_of-result : goal.invariant_of-result
invariant_of-result g c =
    rw (c.in_ok-objects.ensures, c.in_ok-roots.ensures, c.in_ok-remembered.ensures, c.generations.ensures.value) (subst IsWhole (sym (empty_view c.args.config)) (whole_empty c.args.config))

pub returns-clause-ok : goal.returns-clause-ok
returns-clause-ok g c = rw (c.in_ok-objects.ensures, c.in_ok-roots.ensures, c.in_ok-remembered.ensures, c.generations.ensures.value) (empty_view c.args.config)

pub returns-clause-sound : goal.returns-clause-sound
returns-clause-sound g c =
    let whole : IsWhole (heap_with c.in_ok-objects.objects c.in_ok-roots.roots.slots c.in_ok-remembered.remembered) = rw (c.in_ok-objects.ensures, c.in_ok-roots.ensures, c.in_ok-remembered.ensures, c.generations.ensures.value) (subst IsWhole (sym (empty_view c.args.config)) (whole_empty c.args.config)) in
    heap_is c.in_ok-objects.objects c.in_ok-roots.roots.slots c.in_ok-remembered.remembered c.free_count-free.ensures.sound whole
