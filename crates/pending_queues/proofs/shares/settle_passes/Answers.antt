use Rattle.std.proofs.Common.{arith, ◌≡◌, ◌∙◌, length, ap, sym}
use Rattle.std.proofs.lemmas.List.{length-map}
use Rattle.std.proofs.lemmas.Option.{slice_get_within}
use Rattle.pending_queues.specs.Gathered.{IsSettled}
use Rattle.pending_queues.proofs.Joining.{settled_next}
use Rattle.pending_queues.proofs.shares.settle_passes.Goals as goal

pub loop-number-preserved : goal.loop-number-preserved
loop-number-preserved g c =
    let left = c.settle.ensures.left in
    let many : length c.args.passes.now.items ≡ length c.args.lanes.now.items = sym (length-map c.args.passes.now.items (λ q. q.lane)) ∙ ap length c.requires.lanes in
    let same = ap length c.loop-number.invariant.same in
    let lanes = c.args.lanes.now.ok.0 in
    let e = settled_next IsSettled c.args.passes.now.items c.loop-number.passes.items c.loop-number.number c.index_mut.result.now c.settle.new.pass
    c.loop-number.invariant.same c.index_mut.ensures.value (omega arith) c.settle.ensures.same (record { whole = c.settle.ensures.whole; few = omega arith }) c.loop-number.invariant.settled in
    record { same = e.0; settled = e.1 }

pub returns : goal.returns
returns g c = λ u p at.
    let lt = slice_get_within c.args.passes.now.items u p at in
    let many : length c.args.passes.now.items ≡ length c.args.lanes.now.items = sym (length-map c.args.passes.now.items (λ q. q.lane)) ∙ ap length c.requires.lanes in
    c.loop-number.invariant.settled u p (omega arith) at
