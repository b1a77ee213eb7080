use Rattle.std.proofs.Common.{All, length, map, refl, sym, ap, subst, ◌∙◌}
use Rattle.pending_queues.specs.PendingValue.{Source, IsSeatOf}
use Rattle.scavenge.specs.Handed.{CopiesKeyValue}
use Rattle.layout.specs.Place.{place_word}
use Rattle.settling.specs.Shown.{AreShown}
use Rattle.workers_in_threads.specs.Reports.{ReportsApart}
use Rattle.workers_in_threads.proofs.Back.{draws_here, draws_count, seats_here, seats_count, at_rest}
use Rattle.workers_in_threads.proofs.Concluding.{all_taken, all_young, settles, scans_once, apart}
use Rattle.workers_in_threads.proofs.gathering.gathered.Goals as goal

pub close-drawn-requires-clause-seats : goal.close-drawn-requires-clause-seats
close-drawn-requires-clause-seats g c = draws_here _ _ _ _ _ _ _ _ _ _ _ _ _ c.requires.placed.back

pub close-drawn-requires-clause-all : goal.close-drawn-requires-clause-all
close-drawn-requires-clause-all g c = draws_count _ _ _ _ _ _ _ _ _ _ _ _ _ c.requires.placed.back

pub brought-requires-clause-rest : goal.brought-requires-clause-rest
brought-requires-clause-rest g c = at_rest _ _ _ _ _ _ _ _ _ _ _ _ _ c.requires.placed.back refl

pub show_large-requires-clause-young : goal.show_large-requires-clause-young
show_large-requires-clause-young g c =
    rw c.deref.ensures.value
    (all_young _ _ _ _ _ _ _ _ _ _ _ _ _ c.requires.placed.back refl c.requires.some c.close-drawn.ensures.once c.close-drawn.ensures.members c.args.places c.requires.placed.settled c.in_ok-told.told c.in_ok-told.ensures
    c.in_ok-reports.field-0.reports.items c.in_ok-reports.field-0.blocks.items (map place_word c.in_ok-reports.field-0.large.items) c.in_ok-reports.ensures)

pub close-requires-clause-seats : goal.close-requires-clause-seats
close-requires-clause-seats g c = subst (λ q. All (IsSeatOf q) c.args.seats.seats.items) (sym c.queues.view_is) (seats_here _ _ _ _ _ _ _ _ _ _ _ _ _ c.requires.placed.back)

pub close-requires-clause-all : goal.close-requires-clause-all
close-requires-clause-all g c = seats_count _ _ _ _ _ _ _ _ _ _ _ _ _ c.requires.placed.back ∙ ap (λ (q : Source g.row.A.Denot CopiesKeyValue). length q.lanes) (sym c.queues.view_is)

pub all_delivered-requires-clause-taken : goal.all_delivered-requires-clause-taken
all_delivered-requires-clause-taken g c =
    all_taken _ _ _ _ _ _ _ _ _ _ _ _ _ c.requires.placed.back refl c.requires.some c.close-drawn.ensures.once c.close-drawn.ensures.members c.args.places c.requires.placed.settled c.in_ok-told.told c.in_ok-told.ensures

pub returns-clause-settled : goal.returns-clause-settled
returns-clause-settled g c =
    let shown : AreShown c.args.heap.now c.args.collection (map place_word c.in_ok-reports.field-0.large.items) c.args.places c.show_large.new.places = subst (λ ps. AreShown c.args.heap.now c.args.collection (map place_word ps) c.args.places c.show_large.new.places) c.deref.ensures.value c.show_large.ensures.shown in
    settles _ _ _ _ _ _ _ _ _ _ _ _ _ c.requires.placed.back refl c.requires.some c.close-drawn.ensures.once c.close-drawn.ensures.members c.args.places c.requires.placed.settled c.in_ok-told.told c.in_ok-told.ensures
    c.in_ok-reports.field-0.reports.items c.in_ok-reports.field-0.blocks.items (map place_word c.in_ok-reports.field-0.large.items) c.show_large.new.places c.in_ok-reports.ensures (c.show_large.ensures.count ∙ c.requires.placed.many) shown

pub returns-clause-once : goal.returns-clause-once
returns-clause-once g c =
    let shown : AreShown c.args.heap.now c.args.collection (map place_word c.in_ok-reports.field-0.large.items) c.args.places c.show_large.new.places = subst (λ ps. AreShown c.args.heap.now c.args.collection (map place_word ps) c.args.places c.show_large.new.places) c.deref.ensures.value c.show_large.ensures.shown in
    scans_once _ _ _ _ _ _ _ _ _ _ _ _ _ c.requires.placed.back refl c.requires.some c.close-drawn.ensures.once c.close-drawn.ensures.members c.args.places c.requires.placed.settled c.in_ok-told.told c.in_ok-told.ensures
    c.in_ok-reports.field-0.reports.items c.in_ok-reports.field-0.blocks.items (map place_word c.in_ok-reports.field-0.large.items) c.show_large.new.places c.in_ok-reports.ensures (c.show_large.ensures.count ∙ c.requires.placed.many) shown

pub returns-clause-apart : goal.returns-clause-apart
returns-clause-apart g c =
    let shown : AreShown c.args.heap.now c.args.collection (map place_word c.in_ok-reports.field-0.large.items) c.args.places c.show_large.new.places = subst (λ ps. AreShown c.args.heap.now c.args.collection (map place_word ps) c.args.places c.show_large.new.places) c.deref.ensures.value c.show_large.ensures.shown in
    subst (ReportsApart c.args.heap.now c.args.collection.generation (length c.args.seats.workspaces.items) c.in_ok-reports.field-0.reports.items) (sym c.in_ok-deliveries.ensures)
    (apart _ _ _ _ _ _ _ _ _ _ _ _ _ c.requires.placed.back refl c.requires.some c.close-drawn.ensures.once c.close-drawn.ensures.members c.args.places c.requires.placed.settled c.in_ok-told.told c.in_ok-told.ensures
    c.in_ok-reports.field-0.reports.items c.in_ok-reports.field-0.blocks.items (map place_word c.in_ok-reports.field-0.large.items) c.show_large.new.places c.in_ok-reports.ensures (c.show_large.ensures.count ∙ c.requires.placed.many) shown)
