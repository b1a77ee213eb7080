use Rattle.std.proofs.Common.{arith, ◌≡◌, ◌<◌, map, set, sym, ap, ◌∙◌, refl, subst, length}
use Rattle.block_pool.specs.BlockValue.{BlockValue}
use Rattle.pending_queues.specs.Labelled.{labelled}
use Rattle.pending_queues.specs.PendingValue.{IsSeatOf, SeatValue}
use Rattle.pending_queues.specs.Seated.{sent_by}
use Rattle.pending_queues.proofs.Dealing.{root-there}
use Rattle.pending_queues.proofs.Seating.{MaySend, may-send, exported, exported-view, own-there, seat_view, unchanged}
use Rattle.pending_queues.proofs.ruled_pending.RuledPending.export.Given as given
use Rattle.pending_queues.proofs.ruled_pending.RuledPending.export.Goals as goal

pub send-requires-clause-lane : goal.send-requires-clause-lane
send-requires-clause-lane g c =
    let of = ap (λ s. s.source.lanes) c.seat.view_is ∙ ap (λ s. s.lanes) c.requires.seat.of ∙ sym (ap (λ s. s.lanes) c.self.view_is) in
    let own = c.requires.seat.own in
    let index = ap (λ s. s.index) c.seat.view_is in
    let many = ap (λ s. length s.lanes) c.self.view_is in
    let lt : c.seat.inside.index < length c.self.inside.lanes.items = omega arith in
    (root-there c.self.inside.lanes.items c.seat.inside.index c.seat.inside.passes.items c.index_mut.result.now c.index.result.now of lt c.index_mut.ensures.value c.index.ensures).1

-- what the seat may send to its own queue
sends : (g : given.Over) (c : goal.After-index_mut g) → MaySend g.C.Cargo.fits c.index_mut.result.now c.mark_exported.new.self
sends g c =
    let at = own-there _ _ _ _ _ _ _ _ _ c.seat.view_is c.requires.seat c.index_mut.ensures.value in
    let key = sym (ap (λ s. s.source.key) c.seat.view_is ∙ ap (λ s. s.key) c.requires.seat.of) in
    let fact = subst (λ k. g.C.Cargo.fits k (labelled c.seat.inside.index (length (sent_by c.seat.inside.passes.items c.seat.inside.index)) c.args.block)) key
    (subst (λ (s : SeatValue g.row.A.Denot g.row.C-Key.Denot). g.C.Cargo.fits c.args.self.now.key (labelled s.index (length s.sent) c.args.block)) (sym c.seat.view_is) c.requires.fact) in
    may-send _ _ _ _ _ _ _ _ _ _ c.args.block _ c.len.result c.seat.invariant at c.mark_exported.ensures (c.len.ensures ∙ (c.reserve.new.self.ok.0 ∙ ap length c.reserve.ensures.items)) fact

pub send-requires-clause-sends : goal.send-requires-clause-sends
send-requires-clause-sends g c = ((sends g c).parts, (sends g c).senders)

pub send-requires-clause-block : goal.send-requires-clause-block
send-requires-clause-block g c = (sends g c).meets

pub invariant_of-seat-in-Ok : goal.invariant_of-seat-in-Ok
invariant_of-seat-in-Ok g c =
    let at = own-there _ _ _ _ _ _ _ _ _ c.seat.view_is c.requires.seat c.index_mut.ensures.value in
    exported _ _ _ _ _ _ _ _ _ _ _ _ c.seat.invariant at c.in-Ok.ensures (rw (c.push_reserved.ensures.items, c.reserve.ensures.items, c.len-size.ensures.value, c.mark_exported.ensures) refl)

pub returns-in-Ok-clause-sent : goal.returns-in-Ok-clause-sent
returns-in-Ok-clause-sent g c =
    let at = own-there _ _ _ _ _ _ _ _ _ c.seat.view_is c.requires.seat c.index_mut.ensures.value in
    exported-view _ _ _ _ _ _ _ _ _ _ _ c.args.block _ c.len.result c.seat.invariant c.seat.view_is at c.in-Ok.ensures c.mark_exported.ensures
    (c.len.ensures ∙ (c.reserve.new.self.ok.0 ∙ ap length c.reserve.ensures.items))

pub returns-in-Ok-clause-of : goal.returns-in-Ok-clause-of
returns-in-Ok-clause-of g c = subst (IsSeatOf c.args.self.now) (sym (returns-in-Ok-clause-sent g c)) (record { of = c.requires.seat.of; own = c.requires.seat.own })

-- a refused export leaves the passes as they were
same : (g : given.Over) (c : goal.After-restore_sent g) → set c.seat.inside.passes.items c.seat.inside.index c.send.new.pass ≡ c.seat.inside.passes.items
same g c = unchanged _ _ c.index_mut.result.now _ (own-there _ _ _ _ _ _ _ _ _ c.seat.view_is c.requires.seat c.index_mut.ensures.value) c.in-Err.ensures.1

pub invariant_of-seat-in-Err : goal.invariant_of-seat-in-Err
invariant_of-seat-in-Err g c = rw (same g c, c.reserve.ensures.items) c.seat.invariant

pub returns-in-Err-clause-sent : goal.returns-in-Err-clause-sent
returns-in-Err-clause-sent g c = (
  c.restore_sent.ensures ∙ ap (λ (b : BlockValue). record b { sent = c.sent-before.result }) (c.in-Err.ensures.0 ∙ c.mark_exported.ensures) ∙ ap (λ s. record c.args.block { sent = s }) c.sent-before.ensures,
  ap (λ l. seat_view c.seat.inside.key.value c.seat.inside.index l c.seat.inside.marks.items (map (λ b. b.value) c.seat.inside.taken.items) c.seat.inside.cleared) (same g c) ∙ c.seat.view_is,
)

pub returns-in-Err-clause-of : goal.returns-in-Err-clause-of
returns-in-Err-clause-of g c = subst (IsSeatOf c.args.self.now) (sym (returns-in-Err-clause-sent g c).1) c.requires.seat
