use Rattle.std.proofs.Common.{arith, sym, ap, ◌∙◌, refl, subst, length, map}
use Rattle.std.proofs.lemmas.List.{map-append}
use Rattle.std.proofs.lemmas.Option.{slice_get_read}
use Rattle.pending_queues.specs.Seated.{sent_by}
use Rattle.pending_queues.proofs.Seating.{Learned, learned, took, took-view, pass-there, mark-there}
use Rattle.pending_queues.proofs.Places.{agree}
use Rattle.pending_queues.proofs.ruled_pending.RuledPending.look.Given as given
use Rattle.pending_queues.proofs.ruled_pending.RuledPending.look.Goals as goal

pub raise-requires : goal.raise-requires
raise-requires g c =
    let u = c.args.exporter in
    let at = pass-there _ _ _ _ _ _ _ _ u _ c.seat.view_is c.requires.seat.of c.requires.exporter c.index_mut.ensures.value in
    let mark = mark-there _ _ _ _ _ _ _ _ u _ c.index_mut-2.result.now c.seat.invariant at c.index_mut-2.ensures.value in
    let lanes = ap (λ s. length s.lanes) c.self.view_is in
    let many = c.self.invariant.0 in
    let tally = slice_get_read c.self.inside.tallies.items _ u c.index-2.result.now refl (let e = c.requires.exporter in omega arith) c.index-2.ensures in
    record {
      seat = agree (λ m. m.name) (λ t. t.name) c.seat.inside.marks.items c.self.inside.tallies.items u _ _
          (ap (λ s. s.source.tallies) c.seat.view_is ∙ (ap (λ s. s.tallies) c.requires.seat.of ∙ sym (ap (λ s. s.tallies) c.self.view_is))) mark tally;
    }

lessons : (g : given.Over) (c : goal.After-push_reserved-2 g) → Learned g.C.Cargo.fits c.seat.inside.key.value c.seat.inside.index c.args.exporter (sent_by c.seat.inside.passes.items c.seat.inside.index) (map (λ b. b.value) c.seat.inside.taken.items) c.in-Some.block
lessons g c =
    let at = pass-there _ _ _ _ _ _ _ _ c.args.exporter _ c.seat.view_is c.requires.seat.of c.requires.exporter c.index_mut.ensures.value in
    learned _ _ _ _ _ _ _ _ _ _ (c.seat.invariant.passes_are _ _ at) c.in-Some.ensures

pub invariant_of-seat-2 : goal.invariant_of-seat-2
invariant_of-seat-2 g c =
    let at = pass-there _ _ _ _ _ _ _ _ c.args.exporter _ c.seat.view_is c.requires.seat.of c.requires.exporter c.index_mut.ensures.value in
    let mark = mark-there _ _ _ _ _ _ _ _ c.args.exporter _ c.index_mut-2.result.now c.seat.invariant at c.index_mut-2.ensures.value in
    took _ _ _ _ _ _ _ _ _ _ _ _ _ c.in-Some.block c.label_of.result _ _ c.seat.invariant at mark c.in-Some.ensures.after c.raise.ensures (lessons g c).label c.label_of.ensures
    (rw (c.push_reserved.ensures.items, c.reserve.ensures.items) refl)
    (rw (c.push_reserved-2.ensures.items, c.reserve-2.ensures.items, map-append) (rw c.of.ensures refl))

pub returns-clause-taken : goal.returns-clause-taken
returns-clause-taken g c =
    let at = pass-there _ _ _ _ _ _ _ _ c.args.exporter _ c.seat.view_is c.requires.seat.of c.requires.exporter c.index_mut.ensures.value in
    let mark = mark-there _ _ _ _ _ _ _ _ c.args.exporter _ c.index_mut-2.result.now c.seat.invariant at c.index_mut-2.ensures.value in
    took-view _ _ _ _ _ _ _ _ _ _ _ _ _ _ c.seat.view_is at mark c.in-Some.ensures.after c.raise.ensures
    (rw (c.push_reserved-2.ensures.items, c.reserve-2.ensures.items, map-append) (rw c.of.ensures refl))

pub returns-clause-label : goal.returns-clause-label
returns-clause-label g c = (lessons g c).label

pub returns-clause-fact : goal.returns-clause-fact
returns-clause-fact g c = subst (λ k. g.C.Cargo.fits k c.in-Some.block) (ap (λ s. s.source.key) c.seat.view_is ∙ ap (λ s. s.key) c.requires.seat.of) (lessons g c).fact

pub returns-clause-rises : goal.returns-clause-rises
returns-clause-rises g c = rw (sym (ap (λ s. s.taken) c.seat.view_is)) (lessons g c).rises

pub returns-clause-own : goal.returns-clause-own
returns-clause-own g c own = rw (sym (ap (λ s. s.sent) c.seat.view_is)) ((lessons g c).own (own ∙ sym (ap (λ s. s.index) c.seat.view_is)))
