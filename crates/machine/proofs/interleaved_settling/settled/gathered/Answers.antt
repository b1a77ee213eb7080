use Rattle.std.proofs.Common.{◌≡◌, All, length, map, sym, ap, subst, ◌∙◌, arith}
use Rattle.std.specs.Prelude.{IsSome}
use Rattle.std.proofs.lemmas.Result.{IfOk-from_err}
use Rattle.std.proofs.lemmas.List.{length-map}
use Rattle.pending_queues.specs.declared.exports.deliveries.Delivery.{Delivery as Outcome}
use Rattle.steps.specs.SettledValue.{IsSettled}
use Rattle.steps.specs.ReportValue.{all_won}
use Rattle.forwarding.specs.Plain.{place_of}
use Rattle.forwarding.specs.Plain.{PlainValue as PlainCellsValue}
use Rattle.pending_queues.specs.PlainValue.{outcomes_of}
use Rattle.pending_queues.specs.PlainValue.{PlainValue as PlainQueuesValue}
use Rattle.machine.specs.InterleavedValue.{system_of}
use Rattle.settling.specs.Together.{AreDelivered}
use Rattle.settling.specs.Telling.{all_deliveries}
use Rattle.machine.proofs.Ended.{at_rest_in, brought_in, opened_in, young_in, shown_so, held_count, young, settles, scans_once, nothing_left}
use Rattle.layout.specs.Place.{place_word}
use Rattle.steps.specs.CollectionValue.{CollectionValue}
use Rattle.settling.specs.Shown.{AreShown}
use Rattle.scavenge.specs.Handed.{CopiesKeyValue}
use Rattle.machine.proofs.Delivered.{told_is, each_taken, delivered}
use Rattle.machine.proofs.interleaved_settling.settled.gathered.Goals as goal

pub brought-requires-clause-rest : goal.brought-requires-clause-rest
brought-requires-clause-rest g c = at_rest_in c.args.workers c.args.heap.now c.args.collection c.into_parts-cells.result.members.items c.requires.heap c.requires.collection c.into_parts-cells.ensures.members c.in_ok-workspaces.workspaces.items c.in_ok-workspaces.ensures c.into_parts-cells.ensures.interleaved c.requires.ended

pub settle_alone-places-requires-clause-alone : goal.settle_alone-places-requires-clause-alone
settle_alone-places-requires-clause-alone g c = ap (λ (k : PlainCellsValue). k.passes) c.into_parts-cells.ensures.cells ∙ c.into_parts-cells.ensures.interleaved.cells.passes

pub all_delivered-requires-clause-many : goal.all_delivered-requires-clause-many
all_delivered-requires-clause-many g c =
    let told : length c.in_ok-told.told ≡ length (map outcomes_of c.args.workers.queues.lanes) = ap length (told_is c.args.workers c.into_parts-cells.result.queues c.in_ok-told.told c.into_parts-cells.ensures.queues (c.in_ok-told.ensures ∙ ap (λ (q : PlainQueuesValue CopiesKeyValue). map outcomes_of q.lanes) c.queues.view_is)) in
    let lanes : length (map outcomes_of c.args.workers.queues.lanes) ≡ length c.args.workers.queues.lanes = length-map c.args.workers.queues.lanes outcomes_of in
    let members : length c.into_parts-cells.result.members.items ≡ length c.args.workers.members = ap length c.into_parts-cells.ensures.members in
    omega (arith, told, lanes, members, c.len-n.ensures, c.into_parts-cells.result.members.ok, c.into_parts-cells.ensures.interleaved.queue.count, c.into_parts-cells.ensures.interleaved.count)

pub all_delivered-requires-clause-taken : goal.all_delivered-requires-clause-taken
all_delivered-requires-clause-taken g c =
    subst (All (λ es. All (λ (e : Outcome). IsSome e.taker) es)) (sym (told_is c.args.workers c.into_parts-cells.result.queues c.in_ok-told.told c.into_parts-cells.ensures.queues (c.in_ok-told.ensures ∙ ap (λ (q : PlainQueuesValue CopiesKeyValue). map outcomes_of q.lanes) c.queues.view_is))) (each_taken c.args.workers c.into_parts-cells.ensures.interleaved c.requires.ended)

pub show_large-requires-clause-opened : goal.show_large-requires-clause-opened
show_large-requires-clause-opened g c = opened_in c.args.workers c.args.heap.now c.args.collection c.into_parts-cells.result.members.items c.requires.heap c.requires.collection c.into_parts-cells.ensures.members c.in_ok-workspaces.workspaces.items c.in_ok-workspaces.ensures c.into_parts-cells.ensures.interleaved

pub show_large-requires-clause-young : goal.show_large-requires-clause-young
show_large-requires-clause-young g c =
    rw c.deref.ensures.value
    (young_in c.args.workers c.args.heap.now c.args.collection c.into_parts-cells.result.members.items c.requires.heap c.requires.collection c.into_parts-cells.ensures.members c.in_ok-workspaces.workspaces.items c.in_ok-workspaces.ensures (map place_word c.in_ok-reports.field-0.large.items)
    (young c.args.workers c.into_parts-cells.ensures.interleaved c.requires.ended c.in_ok-reports.field-0.reports.items c.in_ok-reports.field-0.blocks.items (map place_word c.in_ok-reports.field-0.large.items)
    (brought_in c.args.workers c.args.heap.now c.args.collection c.into_parts-cells.result.members.items c.requires.heap c.requires.collection c.into_parts-cells.ensures.members c.in_ok-workspaces.workspaces.items c.in_ok-workspaces.ensures c.in_ok-reports.field-0.reports.items c.in_ok-reports.field-0.blocks.items (map place_word c.in_ok-reports.field-0.large.items) c.in_ok-reports.ensures)))

pub show_large-requires-clause-count : goal.show_large-requires-clause-count
show_large-requires-clause-count g c =
    held_count c.args.workers c.into_parts-cells.ensures.interleaved c.settle_alone-places.result (c.settle_alone-places.ensures.exact ∙ ap (λ (k : PlainCellsValue). map place_of k.held) c.into_parts-cells.ensures.cells)
    ∙ ap (λ (d : CollectionValue). d.cells) (sym c.requires.collection)

pub returns-clause-settled : goal.returns-clause-settled
returns-clause-settled g c =
    let shown : AreShown c.args.heap.now c.args.collection (map place_word c.in_ok-reports.field-0.large.items) c.settle_alone-places.result c.show_large.new.places = subst (λ ps. AreShown c.args.heap.now c.args.collection (map place_word ps) c.settle_alone-places.result c.show_large.new.places) c.deref.ensures.value c.show_large.ensures.shown in
    subst (λ d. IsSettled c.args.workers.heap d c.show_large.new.places c.in_ok-reports.field-0.blocks.items (all_won c.in_ok-reports.field-0.reports.items)) (sym c.requires.collection)
    (settles c.args.workers c.into_parts-cells.ensures.interleaved c.requires.ended c.in_ok-reports.field-0.reports.items c.in_ok-reports.field-0.blocks.items (map place_word c.in_ok-reports.field-0.large.items)
    (brought_in c.args.workers c.args.heap.now c.args.collection c.into_parts-cells.result.members.items c.requires.heap c.requires.collection c.into_parts-cells.ensures.members c.in_ok-workspaces.workspaces.items c.in_ok-workspaces.ensures c.in_ok-reports.field-0.reports.items c.in_ok-reports.field-0.blocks.items (map place_word c.in_ok-reports.field-0.large.items) c.in_ok-reports.ensures)
    c.settle_alone-places.result c.show_large.new.places (c.settle_alone-places.ensures.exact ∙ ap (λ (k : PlainCellsValue). map place_of k.held) c.into_parts-cells.ensures.cells) c.show_large.ensures.count
    (shown_so c.args.workers c.args.heap.now c.args.collection c.into_parts-cells.result.members.items c.requires.heap c.requires.collection c.into_parts-cells.ensures.members c.in_ok-workspaces.workspaces.items c.in_ok-workspaces.ensures (map place_word c.in_ok-reports.field-0.large.items) c.settle_alone-places.result c.show_large.new.places shown))

pub returns-clause-once : goal.returns-clause-once
returns-clause-once g c =
    scans_once c.args.workers c.into_parts-cells.ensures.interleaved c.requires.ended c.in_ok-reports.field-0.reports.items c.in_ok-reports.field-0.blocks.items (map place_word c.in_ok-reports.field-0.large.items)
    (brought_in c.args.workers c.args.heap.now c.args.collection c.into_parts-cells.result.members.items c.requires.heap c.requires.collection c.into_parts-cells.ensures.members c.in_ok-workspaces.workspaces.items c.in_ok-workspaces.ensures c.in_ok-reports.field-0.reports.items c.in_ok-reports.field-0.blocks.items (map place_word c.in_ok-reports.field-0.large.items) c.in_ok-reports.ensures)

pub returns-clause-reports : goal.returns-clause-reports
returns-clause-reports g c =
    record {
      ended = c.requires.ended;
      left = nothing_left c.args.workers c.into_parts-cells.ensures.interleaved c.requires.ended;
      lists = (brought_in c.args.workers c.args.heap.now c.args.collection c.into_parts-cells.result.members.items c.requires.heap c.requires.collection c.into_parts-cells.ensures.members c.in_ok-workspaces.workspaces.items c.in_ok-workspaces.ensures c.in_ok-reports.field-0.reports.items c.in_ok-reports.field-0.blocks.items (map place_word c.in_ok-reports.field-0.large.items) c.in_ok-reports.ensures).reported;
      delivered = subst (AreDelivered (system_of c.args.workers)) (sym (c.in_ok-deliveries.ensures ∙ ap all_deliveries (told_is c.args.workers c.into_parts-cells.result.queues c.in_ok-told.told c.into_parts-cells.ensures.queues (c.in_ok-told.ensures ∙ ap (λ (q : PlainQueuesValue CopiesKeyValue). map outcomes_of q.lanes) c.queues.view_is))))
          (delivered c.args.workers c.into_parts-cells.ensures.interleaved c.requires.ended);
    }

pub returns-clause-reached : goal.returns-clause-reached
returns-clause-reached g c = c.into_parts-cells.ensures.interleaved.reached

pub returns-in_err-deliveries-clause-settled : goal.returns-in_err-deliveries-clause-settled
returns-in_err-deliveries-clause-settled g c = IfOk-from_err c.from_residual-in_err-deliveries.result _ c.from_residual-in_err-deliveries.ensures.0

pub returns-in_err-deliveries-clause-collection : goal.returns-in_err-deliveries-clause-collection
returns-in_err-deliveries-clause-collection g c = IfOk-from_err c.from_residual-in_err-deliveries.result _ c.from_residual-in_err-deliveries.ensures.0

pub returns-in_err-deliveries-clause-once : goal.returns-in_err-deliveries-clause-once
returns-in_err-deliveries-clause-once g c = IfOk-from_err c.from_residual-in_err-deliveries.result _ c.from_residual-in_err-deliveries.ensures.0

pub returns-in_err-deliveries-clause-reports : goal.returns-in_err-deliveries-clause-reports
returns-in_err-deliveries-clause-reports g c = IfOk-from_err c.from_residual-in_err-deliveries.result _ c.from_residual-in_err-deliveries.ensures.0

pub returns-in_err-deliveries-clause-reached : goal.returns-in_err-deliveries-clause-reached
returns-in_err-deliveries-clause-reached g c = IfOk-from_err c.from_residual-in_err-deliveries.result _ c.from_residual-in_err-deliveries.ensures.0
