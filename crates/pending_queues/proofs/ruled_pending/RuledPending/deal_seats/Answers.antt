use Rattle.std.proofs.Common.{arith, ◌≡◌, ◌+◌, ◌-◌, sym, ap, ◌∙◌, length, map, length-append}
use Rattle.std.proofs.lemmas.List.{length-map}
use Rattle.std.proofs.lemmas.List.FromFn.{map-range_with_len_more}
use Rattle.pending_queues.specs.TallyValue.{unraised}
use Rattle.pending_queues.specs.PendingValue.{new_seat}
use Rattle.pending_queues.proofs.Dealing.{renewed, named, named-marks}
use Rattle.pending_queues.proofs.ruled_pending.RuledPending.deal_seats.Goals as goal

pub loop-index-init : goal.loop-index-init
loop-index-init g c =
    let s = c.in_ok-seats.ensures in
    let all : c.args.count - 0 ≡ c.args.count = omega arith in
    record {
      room = (let e = s.exact in let n = c.len.ensures in let o = c.self.inside.lanes.ok.0 in let l = ap (λ s. length s.lanes) c.self.view_is in let m = c.requires.many in omega arith);
      seats = s.items;
      many = ap length s.items;
      roots = c.requires.roots;
      heaps = rw all c.requires.heaps;
    }

pub fresh-requires-clause-passes : goal.fresh-requires-clause-passes
fresh-requires-clause-passes g c = renewed _ _ _ _ _ (sym c.requires.key) c.in_ok-passes.ensures.passes

pub fresh-requires-clause-marks : goal.fresh-requires-clause-marks
fresh-requires-clause-marks g c = named-marks _ _ c.in_ok-marks.ensures.marks

pub fresh-requires-clause-many : goal.fresh-requires-clause-many
fresh-requires-clause-many g c =
    let own = c.self.invariant.0 in
    let names = length-map c.self.inside.tallies.items (λ t. t.name) in
    let tallies = ap (λ s. length s.tallies) c.self.view_is in
    let lanes = ap (λ s. length s.lanes) c.self.view_is in
    let marks = ap length c.in_ok-marks.ensures.marks ∙ length-map c.args.self.now.tallies unraised in
    let passes = sym (ap length c.in_ok-passes.ensures.passes.of) ∙ length-map c.in_ok-passes.passes.items (λ p. p.lane) in
    omega arith

pub loop-index-preserved : goal.loop-index-preserved
loop-index-preserved g c =
    let i = c.loop-index.invariant in
    let p = c.push_reserved.ensures in
    let less : (c.args.count - c.loop-index.index) - 1 ≡ c.args.count - (c.loop-index.index + 1) = omega arith in
    let marks = ap (map (λ m. m.name)) c.in_ok-marks.ensures.marks ∙ named c.args.self.now.tallies in
    let seat = rw (c.in_ok-passes.ensures.passes.of, marks, c.requires.key) at c.in_ok-seat.ensures in
    record {
      room = (let k = p.capacity in let l = i.room in omega arith);
      seats = rw (p.items, i.seats, seat) (sym (map-range_with_len_more (new_seat c.args.self.now) 0 c.loop-index.index c.loop-index.index (omega arith)));
      many = ap length p.items ∙ (length-append c.loop-index.seats.items _ ∙ ap (λ n. n + 1) i.many);
      roots = c.in_ok-passes.ensures.roots;
      heaps = rw (sym less) c.in_ok-marks.ensures.heaps;
    }

pub returns : goal.returns
returns g c =
    let done = c.loop-index-test.false in
    let end = c.loop-index.auto.index-end in
    let all : c.loop-index.index ≡ c.args.count = omega arith in
    rw (sym all) c.loop-index.invariant.seats
