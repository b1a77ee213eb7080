use Rattle.std.proofs.Common.{◌≡◌, ℕ, ◌<◌, All, length, map, sym, ap, subst, ◌∙◌}
use Rattle.std.specs.Option.{option_map}
use Rattle.layout.specs.Place.{place_word}
use Rattle.block_pool.specs.BlockValue.{BlockValue}
use Rattle.steps.specs.ReportValue.{all_won, renaming_of}
use Rattle.steps.specs.ReportView.{won_value}
use Rattle.steps.specs.SettledValue.{IsSettled}
use Rattle.forwarding.specs.Plain.{PlainValue, PlainPassValue, IsFit, place_of}
use Rattle.pending_queues.specs.PlainValue.{lane_at}
use Rattle.pending_queues.specs.PlainValue.{PlainValue as PlainQueuesValue}
use Rattle.scavenge.specs.Handed.{CopiesKeyValue}
use Rattle.workers.specs.Joined.{Each, OnSome}
use Rattle.scavenge.specs.Named.{named, IsWhole}
use Rattle.scavenge.specs.Fronts.{slot_at}
use Rattle.scavenge.specs.Shown.{WorkspaceValue}
use Rattle.settling.specs.OwnDeliveries.{deliveries_of_sizes}
use Rattle.one_worker.proofs.SettleWhole.{opened_at_end, young_at_end, settled_at_end, held_count, reports_at_end, scans_at_end, sizes_at_end, all_won-alone}
use Rattle.one_worker.proofs.serial_settling.settled.settle.Goals as goal

pub settle_alone-places-requires-clause-fits : goal.settle_alone-places-requires-clause-fits
settle_alone-places-requires-clause-fits g c =
    subst (λ (p : PlainPassValue). IsFit c.into_parts-cells.result.cells p) (sym c.into_parts-cells.ensures.pass)
    (subst (λ (k : PlainValue). IsFit k c.args.serial.pass) (sym c.into_parts-cells.ensures.cells) c.into_parts-cells.ensures.serial.cells.fits)

pub settle_alone-places-requires-clause-alone : goal.settle_alone-places-requires-clause-alone
settle_alone-places-requires-clause-alone g c = ap (λ (k : PlainValue). k.passes) c.into_parts-cells.ensures.cells ∙ c.into_parts-cells.ensures.serial.cells.passes

pub exported-requires : goal.exported-requires
exported-requires g c = ap (λ (q : PlainQueuesValue CopiesKeyValue). length q.lanes) c.into_parts-cells.ensures.queues ∙ c.into_parts-cells.ensures.serial.queue.lanes

pub show_large-requires-clause-opened : goal.show_large-requires-clause-opened
show_large-requires-clause-opened g c =
    opened_at_end c.args.serial c.into_parts-cells.ensures.serial c.args.heap.now c.args.collection
    (record { heap_is = c.requires.heap; collection_is = c.requires.collection; out = c.requires.out; queue = c.requires.queue; reached = c.requires.reached })

pub show_large-requires-clause-young : goal.show_large-requires-clause-young
show_large-requires-clause-young g c =
    young_at_end c.args.serial c.into_parts-cells.ensures.serial c.args.heap.now c.args.collection
    (record { heap_is = c.requires.heap; collection_is = c.requires.collection; out = c.requires.out; queue = c.requires.queue; reached = c.requires.reached })
    _ (ap (map place_word) c.deref.ensures.value ∙ c.into_parts-allocation.ensures.large ∙ ap (λ (w : WorkspaceValue). w.worker.large_done) c.into_parts-cells.ensures.workspace)

pub show_large-requires-clause-count : goal.show_large-requires-clause-count
show_large-requires-clause-count g c =
    held_count c.args.serial c.into_parts-cells.ensures.serial c.args.heap.now c.args.collection
    (record { heap_is = c.requires.heap; collection_is = c.requires.collection; out = c.requires.out; queue = c.requires.queue; reached = c.requires.reached })
    c.settle_alone-places.result (c.settle_alone-places.ensures.exact ∙ ap (λ (k : PlainValue). map place_of k.held) c.into_parts-cells.ensures.cells)

pub returns-clause-settled : goal.returns-clause-settled
returns-clause-settled g c =
    let won : all_won c.in_ok-workers.workers.items ≡ map won_value c.into_parts-allocation.result.won.items = all_won-alone c.in_ok-workers.workers.items _ c.in_ok-workers.ensures in
    let same = c.into_parts-cells.ensures.workspace in
    subst (IsSettled c.args.serial.heap c.args.collection c.show_large.new.places c.in_ok-blocks.blocks.items) (sym won)
    (settled_at_end c.args.serial c.into_parts-cells.ensures.serial c.args.heap.now c.args.collection
    (record { heap_is = c.requires.heap; collection_is = c.requires.collection; out = c.requires.out; queue = c.requires.queue; reached = c.requires.reached })
    c.into_parts-allocation.result.allocation.items c.into_parts-allocation.result.done.items c.in_ok-blocks.blocks.items (map won_value c.into_parts-allocation.result.won.items) _ c.settle_alone-places.result c.show_large.new.places
    (subst (λ (w : WorkspaceValue). map (option_map (named w.config.shape)) c.into_parts-allocation.result.allocation.items ≡ w.worker.allocation) same c.into_parts-allocation.ensures.allocation)
    (subst (λ (w : WorkspaceValue). map (named w.config.shape) c.into_parts-allocation.result.done.items ≡ w.worker.done) same c.into_parts-allocation.ensures.done)
    (λ d. subst (λ (w : WorkspaceValue). OnSome (IsWhole w.config.shape w.config.block_words) (slot_at c.into_parts-allocation.result.allocation.items d)) same (c.into_parts-allocation.ensures.allocation_whole d))
    (subst (λ (w : WorkspaceValue). Each (IsWhole w.config.shape w.config.block_words) c.into_parts-allocation.result.done.items) same c.into_parts-allocation.ensures.done_whole)
    c.in_ok-blocks.ensures
    (subst (λ (w : WorkspaceValue). renaming_of w.names (map won_value c.into_parts-allocation.result.won.items) ≡ w.worker.won) same c.into_parts-allocation.ensures.won)
    (subst (λ (w : WorkspaceValue). All (λ (e : ℕ × ℕ). e.0 < length w.names) (map won_value c.into_parts-allocation.result.won.items)) same c.into_parts-allocation.ensures.numbers)
    (ap (map place_word) c.deref.ensures.value ∙ c.into_parts-allocation.ensures.large ∙ ap (λ (w : WorkspaceValue). w.worker.large_done) same)
    (c.settle_alone-places.ensures.exact ∙ ap (λ (k : PlainValue). map place_of k.held) c.into_parts-cells.ensures.cells)
    c.show_large.ensures.count c.show_large.ensures.shown)

pub returns-clause-collection : goal.returns-clause-collection
returns-clause-collection g c = c.requires.collection

pub returns-clause-lists : goal.returns-clause-lists
returns-clause-lists g c =
    let same = c.into_parts-cells.ensures.workspace in
    reports_at_end c.args.serial c.into_parts-cells.ensures.serial c.args.heap.now c.args.collection
    (record { heap_is = c.requires.heap; collection_is = c.requires.collection; out = c.requires.out; queue = c.requires.queue; reached = c.requires.reached })
    c.in_ok-workers.workers.items _ c.in_ok-workers.ensures
    (subst (λ (w : WorkspaceValue). renaming_of w.names (map won_value c.into_parts-allocation.result.won.items) ≡ w.worker.won) same c.into_parts-allocation.ensures.won)
    (c.into_parts-allocation.ensures.scanned ∙ ap (λ (w : WorkspaceValue). w.worker.scanned) same)

pub returns-clause-deliveries : goal.returns-clause-deliveries
returns-clause-deliveries g c = c.in_ok-deliveries.ensures ∙ ap (λ q. deliveries_of_sizes (map (λ (b : BlockValue). length b.objects) (lane_at q 0).sent)) c.into_parts-cells.ensures.queues ∙ ap deliveries_of_sizes (sizes_at_end c.args.serial c.into_parts-cells.ensures.serial)

pub returns-clause-once : goal.returns-clause-once
returns-clause-once g c =
    scans_at_end c.args.serial c.into_parts-cells.ensures.serial c.args.heap.now c.args.collection
    (record { heap_is = c.requires.heap; collection_is = c.requires.collection; out = c.requires.out; queue = c.requires.queue; reached = c.requires.reached })
