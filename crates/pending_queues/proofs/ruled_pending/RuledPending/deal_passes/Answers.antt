use Rattle.std.proofs.Common.{arith, ◌≡◌, ◌<◌, ap, length, subst, get_or}
use Rattle.pending_queues.proofs.Dealing.{root-there, no-first, firsts, starts, steps, ends, sends, lasts, all-first}
use Rattle.pending_queues.proofs.ruled_pending.RuledPending.deal_passes.Goals as goal

pub loop-at-init : goal.loop-at-init
loop-at-init g c =
    let many = ap (λ s. length s.lanes) c.self.view_is in
    record {
      room = (let k = c.in_ok-passes.ensures.exact in let l = c.len.ensures in let o = c.self.inside.lanes.ok.0 in omega arith);
      passes = no-first _ _ _ _ _ c.in_ok-passes.ensures.items;
      roots = starts _ _ _ _ _ c.requires.roots;
    }

pub deal-pass-requires-clause-lane : goal.deal-pass-requires-clause-lane
deal-pass-requires-clause-lane g c =
    let i = c.loop-at.invariant in
    let lanes = ap (λ s. s.lanes) c.self.view_is in
    let many = ap length lanes in
    let lt : c.loop-at.at < length c.args.self.now.lanes = (let t = c.loop-at-test.true in let e = c.len-at-end.ensures in let o = c.self.inside.lanes.ok.0 in omega arith) in
    let lane = subst (λ l. c.index.result.now ≡ get_or l c.loop-at.at c.index.result.now) lanes c.index.ensures in
    let there = root-there c.args.self.now.lanes c.loop-at.at c.loop-at.roots.items c.index_mut.result.now c.index.result.now i.roots.of lt c.index_mut.ensures.value lane in
    there.1

pub deal-pass-requires-clause-parts : goal.deal-pass-requires-clause-parts
deal-pass-requires-clause-parts g c =
    let i = c.loop-at.invariant in
    let lanes = ap (λ s. s.lanes) c.self.view_is in
    let many = ap length lanes in
    let lt : c.loop-at.at < length c.args.self.now.lanes = (let t = c.loop-at-test.true in let e = c.len-at-end.ensures in let o = c.self.inside.lanes.ok.0 in omega arith) in
    let lane = subst (λ l. c.index.result.now ≡ get_or l c.loop-at.at c.index.result.now) lanes c.index.ensures in
    let there = root-there c.args.self.now.lanes c.loop-at.at c.loop-at.roots.items c.index_mut.result.now c.index.result.now i.roots.of lt c.index_mut.ensures.value lane in
    let root = i.roots.after _ _ there.0 (omega arith) in
    let parts = ap (λ v. v.parts) root in let own = c.requires.index in omega arith

pub deal-pass-requires-clause-unused : goal.deal-pass-requires-clause-unused
deal-pass-requires-clause-unused g c =
    let i = c.loop-at.invariant in
    let lanes = ap (λ s. s.lanes) c.self.view_is in
    let many = ap length lanes in
    let lt : c.loop-at.at < length c.args.self.now.lanes = (let t = c.loop-at-test.true in let e = c.len-at-end.ensures in let o = c.self.inside.lanes.ok.0 in omega arith) in
    let lane = subst (λ l. c.index.result.now ≡ get_or l c.loop-at.at c.index.result.now) lanes c.index.ensures in
    let there = root-there c.args.self.now.lanes c.loop-at.at c.loop-at.roots.items c.index_mut.result.now c.index.result.now i.roots.of lt c.index_mut.ensures.value lane in
    let root = i.roots.after _ _ there.0 (omega arith) in
    (ap (λ v. v.sent) root, ap (λ v. v.taken) root)

pub deal-pass-requires-clause-sender : goal.deal-pass-requires-clause-sender
deal-pass-requires-clause-sender g c =
    let i = c.loop-at.invariant in
    let lanes = ap (λ s. s.lanes) c.self.view_is in
    let many = ap length lanes in
    let lt : c.loop-at.at < length c.args.self.now.lanes = (let t = c.loop-at-test.true in let e = c.len-at-end.ensures in let o = c.self.inside.lanes.ok.0 in omega arith) in
    let lane = subst (λ l. c.index.result.now ≡ get_or l c.loop-at.at c.index.result.now) lanes c.index.ensures in
    let there = root-there c.args.self.now.lanes c.loop-at.at c.loop-at.roots.items c.index_mut.result.now c.index.result.now i.roots.of lt c.index_mut.ensures.value lane in
    let root = i.roots.after _ _ there.0 (omega arith) in
    λ e. sends _ _ _ _ _ root e

pub deal-pass-requires-clause-last : goal.deal-pass-requires-clause-last
deal-pass-requires-clause-last g c =
    let i = c.loop-at.invariant in
    let lanes = ap (λ s. s.lanes) c.self.view_is in
    let many = ap length lanes in
    let lt : c.loop-at.at < length c.args.self.now.lanes = (let t = c.loop-at-test.true in let e = c.len-at-end.ensures in let o = c.self.inside.lanes.ok.0 in omega arith) in
    let lane = subst (λ l. c.index.result.now ≡ get_or l c.loop-at.at c.index.result.now) lanes c.index.ensures in
    let there = root-there c.args.self.now.lanes c.loop-at.at c.loop-at.roots.items c.index_mut.result.now c.index.result.now i.roots.of lt c.index_mut.ensures.value lane in
    let root = i.roots.after _ _ there.0 (omega arith) in
    λ e. lasts _ _ _ _ _ root c.requires.index lt e

pub loop-at-preserved : goal.loop-at-preserved
loop-at-preserved g c =
    let i = c.loop-at.invariant in
    let lanes = ap (λ s. s.lanes) c.self.view_is in
    let p = c.push_reserved.ensures in
    let many = ap length lanes in
    let lt : c.loop-at.at < length c.args.self.now.lanes = (let t = c.loop-at-test.true in let e = c.len-at-end.ensures in let o = c.self.inside.lanes.ok.0 in omega arith) in
    let lane = subst (λ l. c.index.result.now ≡ get_or l c.loop-at.at c.index.result.now) lanes c.index.ensures in
    let there = root-there c.args.self.now.lanes c.loop-at.at c.loop-at.roots.items c.index_mut.result.now c.index.result.now i.roots.of lt c.index_mut.ensures.value lane in
    record {
      room = (let k = p.capacity in let l = i.room in omega arith);
      passes = rw p.items (firsts _ _ _ _ _ _ c.index_mut.result.now _ c.index.result.now i.passes lt lane there.1 (i.roots.after _ _ there.0 (omega arith)) c.deal-pass.ensures.pass);
      roots = steps _ _ _ _ _ _ c.index_mut.result.now _ i.roots there.0 c.deal-pass.ensures.root;
    }

pub returns-clause-roots : goal.returns-clause-roots
returns-clause-roots g c =
    let many = ap (λ s. length s.lanes) c.self.view_is in
    ends _ _ _ _ _ _ (let t = c.loop-at-test.false in let e = c.len-at-end.ensures in let o = c.self.inside.lanes.ok.0 in omega arith) c.loop-at.invariant.roots

pub returns-clause-passes : goal.returns-clause-passes
returns-clause-passes g c =
    let many = ap (λ s. length s.lanes) c.self.view_is in
    all-first _ _ _ _ _ _ (let t = c.loop-at-test.false in let e = c.len-at-end.ensures in let o = c.self.inside.lanes.ok.0 in omega arith) c.loop-at.invariant.passes
