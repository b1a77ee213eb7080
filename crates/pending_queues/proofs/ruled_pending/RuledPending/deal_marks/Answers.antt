use Rattle.std.proofs.Common.{arith, ◌<◌, ap, refl, length, get_or}
use Rattle.std.proofs.lemmas.List.{length-map}
use Rattle.std.proofs.lemmas.Option.{slice_get_read, slice_get-get_or}
use Rattle.pending_queues.proofs.Dealing.{tap-starts, tap-ends, tap-steps, tapped, marks-push}
use Rattle.pending_queues.proofs.ruled_pending.RuledPending.deal_marks.Goals as goal

pub loop-at-init : goal.loop-at-init
loop-at-init g c =
    let many = ap (λ s. length s.tallies) c.self.view_is in
    let own = length-map c.self.inside.tallies.items (λ t. t.name) in
    record {
      room = (let k = c.in_ok-marks.ensures.exact in let l = c.len.ensures in let o = c.self.inside.tallies.ok.0 in omega arith);
      marks = c.in_ok-marks.ensures.items;
      heaps = tap-starts _ _ _ _ c.requires.heaps;
    }

pub unreachable-requires : goal.unreachable-requires
unreachable-requires g c =
    let i = c.loop-at.invariant.heaps in
    let many = ap (λ s. length s.tallies) c.self.view_is in
    let own = length-map c.self.inside.tallies.items (λ t. t.name) in
    let at = slice_get_read c.loop-at.heaps.items (length c.loop-at.heaps.items) c.loop-at.at c.index_mut.result.now refl (let m = i.many in let t = c.loop-at-test.true in let e = c.len-at-end.ensures in let o = c.self.inside.tallies.ok.0 in omega arith) c.index_mut.ensures.value in
    let some = i.after _ _ at (omega arith) in
    let left = c.requires.left in
    let false_is = c.in_default.ensures.variant.1 (let o = c.index_mut.result.now.ok.0 in omega arith) in cc

pub loop-at-preserved : goal.loop-at-preserved
loop-at-preserved g c =
    let i = c.loop-at.invariant in
    let p = c.push_reserved.ensures in
    let many = ap (λ s. length s.tallies) c.self.view_is in
    let own = length-map c.self.inside.tallies.items (λ t. t.name) in
    let lt : c.loop-at.at < length c.args.self.now.tallies = (let t = c.loop-at-test.true in let e = c.len-at-end.ensures in let o = c.self.inside.tallies.ok.0 in omega arith) in
    let at = slice_get_read c.loop-at.heaps.items (length c.loop-at.heaps.items) c.loop-at.at c.index_mut.result.now refl (let m = i.heaps.many in omega arith) c.index_mut.ensures.value in
    let name = get_or c.args.self.now.tallies c.loop-at.at (c.in-Some.mark.name) in
    let named = slice_get-get_or c.args.self.now.tallies c.loop-at.at c.in-Some.mark.name lt in
    let mark = tapped _ _ _ (λ h. h.items) _ c.index_mut.result.now c.pop.new.self c.in-Some.mark name i.heaps at named c.in-Some.ensures.items in
    record {
      room = (let k = p.capacity in let l = i.room in omega arith);
      marks = rw p.items (marks-push _ _ _ _ name i.marks named mark);
      heaps = tap-steps _ _ _ (λ h. h.items) _ c.index_mut.result.now _ c.in-Some.mark i.heaps at c.in-Some.ensures.items;
    }

pub returns-clause-heaps : goal.returns-clause-heaps
returns-clause-heaps g c =
    let many = ap (λ s. length s.tallies) c.self.view_is in
    let own = length-map c.self.inside.tallies.items (λ t. t.name) in
    tap-ends _ _ _ _ _ (let t = c.loop-at-test.false in let e = c.len-at-end.ensures in let o = c.self.inside.tallies.ok.0 in omega arith) c.loop-at.invariant.heaps
