use Rattle.std.proofs.Common.{arith, ◌≡◌, sym, ap, ◌∙◌, refl, length, eq-eqb, ne_eqb}
use Rattle.std.proofs.Math.Nat.{le-max_left, le-max_right}
use Rattle.std.proofs.lemmas.Option.{slice_get_read}
use Rattle.pending_queues.proofs.Seating.{seen, seen-view, many-sent, own-mark}
use Rattle.pending_queues.proofs.Places.{agree}
use Rattle.pending_queues.proofs.ruled_pending.RuledPending.is_cleared.Goals as goal

pub read-count-requires : goal.read-count-requires
read-count-requires g c =
    let u = c.seat.inside.index in
    let mark = own-mark _ _ _ _ _ _ _ _ _ _ c.index_mut.result.now c.seat.invariant c.seat.view_is c.requires.seat c.index_mut.ensures.value in
    let lanes = ap (λ s. length s.lanes) c.self.view_is in
    let many = c.self.invariant.0 in
    let own = c.requires.seat.own in
    let number = ap (λ s. s.index) c.seat.view_is in
    let tally = slice_get_read c.self.inside.tallies.items _ u c.index.result.now refl (omega arith) c.index.ensures in
    record {
      seat = agree (λ m. m.name) (λ t. t.name) c.seat.inside.marks.items c.self.inside.tallies.items u _ _
          (ap (λ s. s.source.tallies) c.seat.view_is ∙ (ap (λ s. s.tallies) c.requires.seat.of ∙ sym (ap (λ s. s.tallies) c.self.view_is))) mark tally;
    }

pub invariant_of-seat : goal.invariant_of-seat
invariant_of-seat g c =
    let mark = own-mark _ _ _ _ _ _ _ _ _ _ c.index_mut.result.now c.seat.invariant c.seat.view_is c.requires.seat c.index_mut.ensures.value in
    let many = many-sent _ _ _ _ _ _ _ _ c.seat.invariant in
    let all = c.if-all.true in
    seen _ _ _ _ _ _ _ _ _ _ _ _ c.seat.invariant mark c.read-count.ensures (let m = le-max_right c.index_mut.result.now.seen c.read-count.result in omega arith) (let l = c.len.ensures in let o = c.seat.inside.sizes.ok.0 in omega arith)

pub invariant_of-seat-else-all : goal.invariant_of-seat-else-all
invariant_of-seat-else-all g c =
    let mark = own-mark _ _ _ _ _ _ _ _ _ _ c.index_mut.result.now c.seat.invariant c.seat.view_is c.requires.seat c.index_mut.ensures.value in
    seen _ _ _ _ _ _ _ _ _ _ _ _ c.seat.invariant mark c.read-count.ensures (let s = c.seat.invariant.cleared_seen c.seat.inside.index c.index_mut.result.now mark refl in let m = le-max_left c.index_mut.result.now.seen c.read-count.result in omega arith) c.seat.invariant.cleared_sent

pub returns-then-all : goal.returns-then-all
returns-then-all g c =
    let mark = own-mark _ _ _ _ _ _ _ _ _ _ c.index_mut.result.now c.seat.invariant c.seat.view_is c.requires.seat c.index_mut.ensures.value in
    let many = many-sent _ _ _ _ _ _ _ _ c.seat.invariant in
    let all = c.if-all.true in
    let sent = ap (λ s. length s.sent) c.seat.view_is in
    let count : c.read-count.result ≡ length c.args.seat.now.sent = (let l = c.len.ensures in let o = c.seat.inside.sizes.ok.0 in omega arith) in
    rw (eq-eqb _ _ c.if-all.true) (seen-view _ _ _ _ _ _ c.args.seat.now _ _ _ _ c.seat.view_is mark c.read-count.ensures ∙ ap (λ n. record c.args.seat.now { cleared = n }) count)

pub returns-else-all : goal.returns-else-all
returns-else-all g c =
    let mark = own-mark _ _ _ _ _ _ _ _ _ _ c.index_mut.result.now c.seat.invariant c.seat.view_is c.requires.seat c.index_mut.ensures.value in
    let same = ap (λ s. s.cleared) c.seat.view_is in
    rw (ne_eqb _ _ c.if-all.false) (seen-view _ _ _ _ _ _ c.args.seat.now _ _ _ c.seat.inside.cleared c.seat.view_is mark c.read-count.ensures ∙ ap (λ n. record c.args.seat.now { cleared = n }) same)
