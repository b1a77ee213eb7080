use Rattle.std.proofs.Common.{◌≡◌, ℕ, ◌+◌, length, vec_len, sym, ap, subst, ◌∙◌, arith}
use mir.Syntax.{of_param}
use denote.Exit.{unseen}
use denote.Param.Send.{Quiet-if}
use Rattle.idle_count.proofs.verdict.Verdict.TheSendSync as verdict
use Rattle.forwarding.specs.Passes.{AtEach}
use Rattle.workers_in_threads.specs.Kits.{IsKit, IsBroughtBack}
use Rattle.workers_in_threads.proofs.Crossing.{kit_send, brought_send, heap_sync, collection_sync, claims_sync, idle_sync, queues_sync}
use Rattle.workers_in_threads.proofs.Places.{at_push, at_rest, at_first, at_begin, at_none}
use Rattle.workers_in_threads.proofs.Promised.{Row, row_of_promise, are_kept}
use Rattle.workers_in_threads.proofs.threads.fn.work_in_threads.scope.Goals as goal

pub loop-kit-init : goal.loop-kit-init
loop-kit-init g c =
    let none : vec_len c.captures.handles ≡ 0 = c.captures.handles.ok.0 ∙ ap length c.requires.none in record {
      many = omega (arith, none, c.into_iter-kit-iterator.ensures.into_iter_gives.1, c.len-others.ensures);
      room = omega (arith, c.requires.room, c.len-others.ensures, c.captures.kits.ok.0);
      rest = at_begin (λ i. IsKit (g.S.SharedCells.limit c.captures.cells.now) (g.S.SharedCells.is_pass c.captures.cells.now) g.S.SharedCells.won c.captures.heap.now c.captures.collection.now c.captures.claims.now c.captures.queues.now c.captures.idle.now c.captures.verdict.now c.captures.workers (1 + i)) _ _ _
          c.into_iter-kit-iterator.ensures.into_iter_gives.0 none c.requires.kits;
      made = at_none _ _ c.requires.none;
    }

pub push_reserved-requires : goal.push_reserved-requires
push_reserved-requires g c = omega (arith, c.loop-kit.invariant.many, c.loop-kit.invariant.room, c.in-Some.ensures.steps.1)

pub loop-kit-preserved : goal.loop-kit-preserved
loop-kit-preserved g c =
    let F = λ (i : ℕ). IsKit (g.S.SharedCells.limit c.captures.cells.now) (g.S.SharedCells.is_pass c.captures.cells.now) g.S.SharedCells.won c.captures.heap.now c.captures.collection.now c.captures.claims.now c.captures.queues.now c.captures.idle.now c.captures.verdict.now c.captures.workers (1 + i) in
    let first = at_first F _ _ _ _ c.in-Some.ensures.steps.0 c.loop-kit.invariant.rest in
    let number = c.index-worker.ensures ∙ ap (λ s. s.index) first.seat ∙ ap (λ m. 1 + m) c.loop-kit.handles.ok.0 in record {
      many = omega (arith, c.loop-kit.invariant.many, c.push_reserved.ensures.len, c.in-Some.ensures.steps.1);
      room = omega (arith, c.loop-kit.invariant.room, c.push_reserved.ensures.capacity);
      rest = at_rest F _ _ _ _ _ c.in-Some.ensures.steps.0 c.push_reserved.ensures.len c.loop-kit.invariant.rest;
      made = subst (AtEach (λ i h. ◌≡◌ {A = Row g.row.S.Denot g.row.A.Denot} (row_of_promise h.promise) (c.captures.heap.now, c.captures.collection.now, c.captures.cells.now, c.captures.claims.now, c.captures.queues.now, c.captures.workers, 1 + i))) (sym c.push_reserved.ensures.items)
          (at_push (λ i h. ◌≡◌ {A = Row g.row.S.Denot g.row.A.Denot} (row_of_promise h.promise) (c.captures.heap.now, c.captures.collection.now, c.captures.cells.now, c.captures.claims.now, c.captures.queues.now, c.captures.workers, 1 + i)) _ _ c.loop-kit.invariant.made
          (subst (λ m. ◌≡◌ {A = Row g.row.S.Denot g.row.A.Denot} (row_of_promise c.in-Ok.handle.promise) (c.captures.heap.now, c.captures.collection.now, c.captures.cells.now, c.captures.claims.now, c.captures.queues.now, c.captures.workers, m)) number
          (ap row_of_promise c.in-Ok.ensures.ok)));
    }

pub returns-in-Ok-join_promised : goal.returns-in-Ok-join_promised
returns-in-Ok-join_promised g c =
    let i = c.loop-kit.invariant in
    let e = c.in-Ok-join_promised.ensures in
    let all : vec_len c.loop-kit.handles ≡ c.len-others.result = omega (arith, i.many, c.len.ensures, c.if-len-others.false) in
    let brought : c.len-others.result ≡ length c.in-Ok-join_promised.brought.items = sym all ∙ sym e.len ∙ c.in-Ok-join_promised.brought.ok.0 in
    let first = subst (λ t. IsBroughtBack (g.S.SharedCells.is_pass c.captures.cells.now) g.S.SharedCells.known g.S.SharedCells.won c.captures.heap.now c.captures.collection.now c.captures.claims.now c.captures.queues.now c.captures.workers t c.work_apart-first.result) c.requires.first c.work_apart-first.ensures in
    let many : 1 + length c.in-Ok-join_promised.brought.items ≡ c.captures.workers = omega (arith, brought, c.len-others.ensures, c.requires.many, c.captures.kits.ok.0) in
    let others = are_kept g.S.SharedCells.is_pass g.S.SharedCells.known g.S.SharedCells.won (λ h. (h.promise.heap.now, h.promise.collection.now, h.promise.cells.now, h.promise.claims.now, h.promise.queues.now, h.promise.workers, h.promise.worker))
    c.captures.heap.now c.captures.collection.now c.captures.cells.now c.captures.claims.now c.captures.queues.now c.captures.workers c.len-others.result c.loop-kit.handles.items c.in-Ok-join_promised.brought.items
    (sym all ∙ c.loop-kit.handles.ok.0) brought i.made (λ j r w. let k = (e.each j r (omega (arith, w, all))).1 in (k.handle, k.handle_is, k.kept)) in
    record { first = first; others = (many, others); told = tt }

pub spawn_with-started-requires-clause-runs : goal.spawn_with-started-requires-clause-runs
spawn_with-started-requires-clause-runs g c κs within =
    let b = c.requires.bounds in
    let F = IsKit (g.S.SharedCells.limit c.captures.cells.now) (g.S.SharedCells.is_pass c.captures.cells.now) g.S.SharedCells.won c.captures.heap.now c.captures.collection.now c.captures.claims.now c.captures.queues.now c.captures.idle.now c.captures.verdict.now c.captures.workers in
    let first = at_first (λ (i : ℕ). F (1 + i)) _ _ _ _ c.in-Some.ensures.steps.0 c.loop-kit.invariant.rest in
    (subst (λ t. F t c.in-Some.kit) (sym (ap (λ s. s.index) first.seat)) first, (record { owned = b.4.owned; leaving = λ k. Quiet-if (k (of_param 3)) _ unseen (λ x w. tt) (λ x w. tt) }, record { owned = b.5.owned; leaving = λ k. Quiet-if (k (of_param 4)) _ unseen (λ x w. tt) (λ x w. tt) }, record { shared = b.0.shared }, record { shared = b.1.shared }, record { shared = b.2.shared }, record { shared = b.3.shared }, b.6))

pub spawn_with-started-requires-send-F : goal.spawn_with-started-requires-send-F
spawn_with-started-requires-send-F g c κs within =
    let b = c.requires.bounds in
    let heap = heap_sync _ g.A.Allocator b.3 in
    let collection = collection_sync _ g.A.Allocator b.4 b.3 b.6 in
    let claims = claims_sync _ g.A.Allocator b.4 b.3 b.6 in
    let queues = queues_sync _ g.A.Allocator g.A.Allocator-dict g.A.Destruct-dict b.4 b.3 b.6 in
    let idle = idle_sync _ g.A.Allocator b.4 b.3 b.6 in
    let kit = kit_send _ _ g.A.Allocator b.5 b.4 b.6 in record {
      owned = λ x vs vss. (tt, ((tt, b.0.shared x.0.now x.0.ref_ptr.0 x.0.ref_ptr.1 _), ((tt, heap.shared x.1.now x.1.ref_ptr.0 x.1.ref_ptr.1 _), ((tt, collection.shared x.2.now x.2.ref_ptr.0 x.2.ref_ptr.1 _), ((tt, b.1.shared x.3.now x.3.ref_ptr.0 x.3.ref_ptr.1 _), ((tt, claims.shared x.4.now x.4.ref_ptr.0 x.4.ref_ptr.1 _), ((tt, queues.shared x.5.now x.5.ref_ptr.0 x.5.ref_ptr.1 _), ((tt, idle.shared x.6.now x.6.ref_ptr.0 x.6.ref_ptr.1 _), ((tt, verdict.the_sync.shared x.7.now x.7.ref_ptr.0 x.7.ref_ptr.1 _), ((tt, b.2.shared x.8.now x.8.ref_ptr.0 x.8.ref_ptr.1 _), ((tt, tt), (kit.owned x.10 vss.1.1.1.1.1.1.1.1.1.1.0, tt))))))))))));
      leaving = λ k. Quiet-if (k (of_param 2)) _ unseen (λ x w. (tt, (tt, (tt, (tt, (tt, (tt, (tt, (tt, (tt, (tt, ((tt, (tt, (tt, (tt, (tt, (tt, (tt, (tt, tt)))))))), tt)))))))))))) (λ x w. tt);
    }

pub spawn_with-started-requires-send-T : goal.spawn_with-started-requires-send-T
spawn_with-started-requires-send-T g c κs within =
    let b = c.requires.bounds in
    let brought = brought_send _ _ g.A.Allocator b.5 b.4 b.6 in record {
      owned = brought.owned;
      leaving = λ k. Quiet-if (k (of_param 3)) _ unseen (λ x w. (tt, (tt, (tt, (tt, (tt, (tt, tt))))))) (λ x w. tt);
    }
