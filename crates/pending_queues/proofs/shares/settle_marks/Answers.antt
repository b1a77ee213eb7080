use Rattle.std.proofs.Common.{arith, ◌≡◌, ◌<◌, ◌≤◌, ◌∙◌, length, map, ap, sym, refl}
use Rattle.std.proofs.Math.ListN.{get_or-map}
use Rattle.std.proofs.lemmas.List.{length-map}
use Rattle.std.proofs.lemmas.Option.{slice_get_within, slice_get_read}
use Rattle.pending_queues.specs.TallyValue.{TallySeatValue}
use Rattle.pending_queues.proofs.Joining.{name_there, settled_next}
use Rattle.pending_queues.proofs.shares.settle_marks.Goals as goal

pub settle-requires-clause-seat : goal.settle-requires-clause-seat
settle-requires-clause-seat g c =
    let many : length c.args.marks.now.items ≡ length c.args.tallies.now.items =
    sym (length-map c.args.marks.now.items (λ k. k.name)) ∙ ap length c.requires.tallies ∙ length-map c.args.tallies.now.items (λ t. t.name) in
    let same = ap length c.loop-number.invariant.same in
    let lt : c.loop-number.number < length c.loop-number.marks.items = omega arith in
    name_there (λ m. m.name) c.loop-number.marks.items _ c.loop-number.number _ _ (ap (map (λ m. m.name)) c.loop-number.invariant.same ∙ c.requires.tallies)
    (slice_get_read c.loop-number.marks.items _ c.loop-number.number c.index_mut.result.now refl lt c.index_mut.ensures.value)
    (ap (λ t. t.name) c.index.ensures ∙ sym (get_or-map (λ t. t.name) c.args.tallies.now.items c.loop-number.number c.index.result.now))

pub loop-number-preserved : goal.loop-number-preserved
loop-number-preserved g c =
    let many : length c.args.marks.now.items ≡ length c.args.tallies.now.items =
    sym (length-map c.args.marks.now.items (λ k. k.name)) ∙ ap length c.requires.tallies ∙ length-map c.args.tallies.now.items (λ t. t.name) in
    let same = ap length c.loop-number.invariant.same in
    let e = settled_next (λ (m : TallySeatValue). m.seen ≤ m.raised) c.args.marks.now.items c.loop-number.marks.items c.loop-number.number c.index_mut.result.now c.settle.new.seat
    c.loop-number.invariant.same c.index_mut.ensures.value (omega arith) c.settle.ensures.same c.settle.ensures.raised c.loop-number.invariant.settled in
    record { same = e.0; settled = e.1 }

pub returns : goal.returns
returns g c = λ u m at.
    let lt = slice_get_within c.args.marks.now.items u m at in
    let many : length c.args.marks.now.items ≡ length c.args.tallies.now.items =
    sym (length-map c.args.marks.now.items (λ k. k.name)) ∙ ap length c.requires.tallies ∙ length-map c.args.tallies.now.items (λ t. t.name) in
    c.loop-number.invariant.settled u m (omega arith) at
