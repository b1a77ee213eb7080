use Rattle.std.proofs.Common.{sym, ap, subst, ◌∙◌}
use Rattle.steps.specs.HeapValue.{HeapValue}
use Rattle.steps.specs.CollectionValue.{CollectionValue}
use Rattle.scavenge.specs.Handed.{CopiesKeyValue}
use Rattle.forwarding.specs.Plain.{empty_cells}
use Rattle.pending_queues.specs.PlainValue.{new_pending}
use Rattle.scavenge.specs.ReadyToCollect.{IsReadyToCollect}
use Rattle.one_worker.specs.SerialValue.{SerialValue}
use Rattle.one_worker.proofs.Beginning.{key_of, names_of, first_of, begun, first_system}
use Rattle.one_worker.proofs.serial.SerialCollection.new.Goals as goal

pub invariant_of-result : goal.invariant_of-result
invariant_of-result g c =
    let v : SerialValue = record { heap = c.of.result.value; collection = c.of-2.result.value; cells = c.in_ok-cells.cells; pass = c.in_ok-cells.pass; claims = c.in_ok-claims.claims; draws = c.in_ok-claims.draws; queues = c.in_ok-queues.queues; seat = c.in_ok-queues.seat; workspace = c.in_ok-workspace.workspace } in
    let free = c.in_ok-claims.ensures.free ∙ c.in_ok-free.ensures ∙ c.free.ensures ∙ c.requires.opened.free ∙ ap (λ (h : HeapValue). h.free) (sym c.of.ensures) in
    let queues = c.in_ok-queues.ensures.queues ∙ ap (λ (k : CopiesKeyValue). new_pending k 1)
    (c.new-key.ensures ∙ ap (λ n. key_of c.args.heap.now n) (c.generation.ensures ∙ ap (λ (k : CollectionValue). k.generation) (sym c.of-2.ensures)) ∙ ap (λ h. key_of h c.of-2.result.value.generation) (sym c.of.ensures)) in
    let worker = c.in_ok-workspace.ensures.worker ∙ ap (first_of c.args.heap.now) (sym c.of-2.ensures) ∙ ap (λ h. first_of h c.of-2.result.value) (sym c.of.ensures) in
    rw c.supply.ensures (begun v
    (subst (λ h. IsReadyToCollect h c.of-2.result.value) (sym c.of.ensures) (subst (IsReadyToCollect c.args.heap.now) (sym c.of-2.ensures) c.requires))
    (c.in_ok-cells.ensures.cells ∙ ap (λ n. empty_cells n 1) (c.cells.ensures ∙ ap (λ (k : CollectionValue). k.cells) (sym c.of-2.ensures)))
    c.in_ok-cells.ensures.fits
    free c.in_ok-claims.ensures.count c.in_ok-claims.ensures.seat queues c.in_ok-queues.ensures.seat
    (c.in_ok-workspace.ensures.config ∙ ap (λ (h : HeapValue). h.config) (sym c.of.ensures))
    (c.in_ok-workspace.ensures.names ∙ ap (names_of c.args.heap.now) (sym c.of-2.ensures) ∙ ap (λ h. names_of h c.of-2.result.value) (sym c.of.ensures))
    c.in_ok-workspace.ensures.claim worker)

pub returns-clause-first : goal.returns-clause-first
returns-clause-first g c =
    let v : SerialValue = record { heap = c.of.result.value; collection = c.of-2.result.value; cells = c.in_ok-cells.cells; pass = c.in_ok-cells.pass; claims = c.in_ok-claims.claims; draws = c.in_ok-claims.draws; queues = c.in_ok-queues.queues; seat = c.in_ok-queues.seat; workspace = c.in_ok-workspace.workspace } in
    let free = c.in_ok-claims.ensures.free ∙ c.in_ok-free.ensures ∙ c.free.ensures ∙ c.requires.opened.free ∙ ap (λ (h : HeapValue). h.free) (sym c.of.ensures) in
    let queues = c.in_ok-queues.ensures.queues ∙ ap (λ (k : CopiesKeyValue). new_pending k 1)
    (c.new-key.ensures ∙ ap (λ n. key_of c.args.heap.now n) (c.generation.ensures ∙ ap (λ (k : CollectionValue). k.generation) (sym c.of-2.ensures)) ∙ ap (λ h. key_of h c.of-2.result.value.generation) (sym c.of.ensures)) in
    let worker = c.in_ok-workspace.ensures.worker ∙ ap (first_of c.args.heap.now) (sym c.of-2.ensures) ∙ ap (λ h. first_of h c.of-2.result.value) (sym c.of.ensures) in
    rw c.supply.ensures (first_system v free c.in_ok-claims.ensures.seat queues worker)
