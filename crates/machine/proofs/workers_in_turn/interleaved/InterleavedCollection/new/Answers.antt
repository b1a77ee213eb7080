use Rattle.std.proofs.Common.{refl, sym, ap, subst, ◌∙◌}
use Rattle.steps.specs.HeapValue.{HeapValue}
use Rattle.steps.specs.CollectionValue.{CollectionValue}
use Rattle.scavenge.specs.Handed.{CopiesKeyValue}
use Rattle.forwarding.specs.Plain.{empty_cells}
use Rattle.pending_queues.specs.PlainValue.{new_pending}
use Rattle.scavenge.specs.ReadyToCollect.{IsReadyToCollect}
use Rattle.machine.specs.InterleavedValue.{InterleavedValue}
use Rattle.machine.specs.IsInterleaved.{AreFirst}
use Rattle.machine.proofs.Beginning.{key_of, begun, first_system}
use Rattle.machine.proofs.workers_in_turn.interleaved.InterleavedCollection.new.Goals as goal

pub invariant_of-result : goal.invariant_of-result
invariant_of-result g c =
    let v : InterleavedValue = record { heap = c.of.result.value; collection = c.of-2.result.value; cells = c.in_ok-cells.cells; pass = c.in_ok-cells.pass; claims = c.in_ok-claims.claims; draws = c.in_ok-claims.draws; queues = c.in_ok-queues.queues; workers = c.args.n; idlers = 0; members = c.in_ok-members.members.items } in
    let ready = subst (λ h. IsReadyToCollect h c.of-2.result.value) (sym c.of.ensures) (subst (IsReadyToCollect c.args.heap.now) (sym c.of-2.ensures) c.requires.ready) in
    let cells = c.in_ok-cells.ensures.cells ∙ ap (λ n. empty_cells n 1) (c.cells.ensures ∙ ap (λ (k : CollectionValue). k.cells) (sym c.of-2.ensures)) in
    let free = c.in_ok-claims.ensures.free ∙ c.in_ok-free.ensures ∙ c.free.ensures ∙ c.requires.ready.opened.free ∙ ap (λ (h : HeapValue). h.free) (sym c.of.ensures) in
    let queues = c.in_ok-queues.ensures.queues ∙ ap (λ (k : CopiesKeyValue). new_pending k c.args.n)
    (c.new-key.ensures ∙ ap (λ n. key_of c.args.heap.now n) (c.generation.ensures ∙ ap (λ (k : CollectionValue). k.generation) (sym c.of-2.ensures)) ∙ ap (λ h. key_of h c.of-2.result.value.generation) (sym c.of.ensures)) in
    let first = subst (λ h. AreFirst h c.of-2.result.value c.args.n c.in_ok-members.members.items) (sym c.of.ensures) (subst (λ d. AreFirst c.args.heap.now d c.args.n c.in_ok-members.members.items) (sym c.of-2.ensures) c.in_ok-members.ensures) in
    begun v ready cells c.in_ok-cells.ensures.fits free c.in_ok-claims.ensures.count c.in_ok-claims.ensures.seat queues c.requires.some c.requires.most refl first

pub returns-clause-first : goal.returns-clause-first
returns-clause-first g c =
    let v : InterleavedValue = record { heap = c.of.result.value; collection = c.of-2.result.value; cells = c.in_ok-cells.cells; pass = c.in_ok-cells.pass; claims = c.in_ok-claims.claims; draws = c.in_ok-claims.draws; queues = c.in_ok-queues.queues; workers = c.args.n; idlers = 0; members = c.in_ok-members.members.items } in
    let ready = subst (λ h. IsReadyToCollect h c.of-2.result.value) (sym c.of.ensures) (subst (IsReadyToCollect c.args.heap.now) (sym c.of-2.ensures) c.requires.ready) in
    let cells = c.in_ok-cells.ensures.cells ∙ ap (λ n. empty_cells n 1) (c.cells.ensures ∙ ap (λ (k : CollectionValue). k.cells) (sym c.of-2.ensures)) in
    let free = c.in_ok-claims.ensures.free ∙ c.in_ok-free.ensures ∙ c.free.ensures ∙ c.requires.ready.opened.free ∙ ap (λ (h : HeapValue). h.free) (sym c.of.ensures) in
    let queues = c.in_ok-queues.ensures.queues ∙ ap (λ (k : CopiesKeyValue). new_pending k c.args.n)
    (c.new-key.ensures ∙ ap (λ n. key_of c.args.heap.now n) (c.generation.ensures ∙ ap (λ (k : CollectionValue). k.generation) (sym c.of-2.ensures)) ∙ ap (λ h. key_of h c.of-2.result.value.generation) (sym c.of.ensures)) in
    let first = subst (λ h. AreFirst h c.of-2.result.value c.args.n c.in_ok-members.members.items) (sym c.of.ensures) (subst (λ d. AreFirst c.args.heap.now d c.args.n c.in_ok-members.members.items) (sym c.of-2.ensures) c.in_ok-members.ensures) in
    first_system v ready cells c.in_ok-cells.ensures.fits free c.in_ok-claims.ensures.count c.in_ok-claims.ensures.seat queues c.requires.some c.requires.most refl first
