use Rattle.std.proofs.Common.{◌≡◌, ℕ, ◌+◌, ◌<◌, ◌≤◌, length, vec_len, vec_capacity, sym, ap, subst, ◌∙◌, arith}
use Rattle.std.proofs.lemmas.Bool.{eqb-true}
use mir.Syntax.{of_param}
use denote.Exit.{unseen}
use denote.Param.Send.{Quiet-if}
use Rattle.workers_in_threads.specs.Kits.{IsKit, AreKits, IsBroughtBack, AreBroughtBack}
use Rattle.workers_in_threads.proofs.Places.{some_in, at_head, at_tail, at_both, at_none}
use Rattle.workers_in_threads.proofs.threads.work_in_threads.Goals as goal

pub returns-then-is_empty : goal.returns-then-is_empty
returns-then-is_empty g c =
    let none : vec_len c.args.kits ≡ 0 = eqb-true _ 0 (sym c.is_empty.ensures ∙ c.if-is_empty.true) in
    (ap length c.new.ensures.items ∙ sym (sym c.args.kits.ok.0 ∙ none), at_none _ _ c.new.ensures.items)

pub returns : goal.returns
returns g c =
    let same : c.len.result ≡ length c.args.kits.items = c.len.ensures ∙ c.args.kits.ok.0 in
    let e = c.in-Ok.ensures.1 in
    let items = c.in_ok-insert.ensures.items in
    let many : length c.insert.new.self.items ≡ c.len.result = let more = ap length items in let n = e.1.0.0 in omega (arith, more, n) in
    let all = at_both (IsBroughtBack (g.S.SharedCells.is_pass c.args.cells.now) g.S.SharedCells.known g.S.SharedCells.won c.args.heap.now c.args.collection.now c.args.claims.now c.args.queues.now c.len.result) c.in-Ok.first c.in-Ok.brought.items c.insert.new.self.items items e.0 e.1.0.1 in
    subst (λ (n : ℕ). (length c.insert.new.self.items ≡ n) × AreBroughtBack (g.S.SharedCells.is_pass c.args.cells.now) g.S.SharedCells.known g.S.SharedCells.won c.args.heap.now c.args.collection.now c.args.claims.now c.args.queues.now n c.insert.new.self.items) same (many, all)

pub scoped-joined-requires : goal.scoped-joined-requires
scoped-joined-requires g c =
    let t = c.type_bounds in
    let same : length c.args.kits.items ≡ c.len.result = sym (c.len.ensures ∙ c.args.kits.ok.0) in
    let F = λ (n : ℕ). IsKit (g.S.SharedCells.limit c.args.cells.now) (g.S.SharedCells.is_pass c.args.cells.now) g.S.SharedCells.won c.args.heap.now c.args.collection.now c.args.claims.now c.args.queues.now c.args.idle.now c.args.verdict.now n in
    let all = subst (λ (n : ℕ). AreKits (g.S.SharedCells.limit c.args.cells.now) (g.S.SharedCells.is_pass c.args.cells.now) g.S.SharedCells.won c.args.heap.now c.args.collection.now c.args.claims.now c.args.queues.now c.args.idle.now c.args.verdict.now n c.args.kits.items) same c.requires.kits in
    let kits = at_tail (F c.len.result) _ _ c.remove-own.ensures.items all in
    let some : 0 < length c.args.kits.items = subst (λ (n : ℕ). 0 < n) c.args.kits.ok.0 (some_in _ (sym c.is_empty.ensures ∙ c.if-is_empty.false)) in
    let head = at_head (F c.len.result) _ _ some c.remove-own.ensures.value all in
    let first = ap (λ s. s.index) head.seat in
    let own = subst (λ i. F c.len.result i c.remove-own.result) (sym first) head in
    let many : c.len.result ≡ 1 + length c.remove-own.new.self.items = omega (arith, c.len.ensures, c.remove-own.ensures.len, c.remove-own.new.self.ok.0) in
    let room : length c.remove-own.new.self.items ≤ vec_capacity c.in_ok-handles.handles = omega (arith, c.in_ok-handles.ensures.capacity, c.len-2.ensures, c.remove-own.new.self.ok.0) in
    record {
      at = λ a. (
        kits,
        (
          many,
          (
            c.in_ok-handles.ensures.items,
            (
              room,
              (
                own,
                (
                  first,
                  (
                    c.requires.voice,
                    (
                      (
                        record { shared = t.sync-R.shared },
                        record { shared = t.sync-S.shared },
                        record { shared = t.sync-G.shared },
                        record { shared = t.sync-A.shared },
                        record { owned = t.send-A.owned; leaving = λ k. Quiet-if (k (of_param 3)) _ unseen (λ x w. tt) (λ x w. tt) },
                        record { owned = t.send-S-Pass.owned; leaving = λ k. Quiet-if (k (of_param 4)) _ unseen (λ x w. tt) (λ x w. tt) },
                        t.frees-A-Allocator,
                      ),
                      (
                        record { owned = t.send-A.owned; leaving = λ k. Quiet-if (k (of_param 3)) _ unseen (λ x w. tt) (λ x w. tt) },
                        record { owned = t.send-S-Pass.owned; leaving = λ k. Quiet-if (k (of_param 4)) _ unseen (λ x w. tt) (λ x w. tt) },
                        record { shared = t.sync-R.shared },
                        record { shared = t.sync-S.shared },
                        record { shared = t.sync-G.shared },
                        record { shared = t.sync-A.shared },
                        t.frees-A-Allocator,
                      ),
                    ),
                  ),
                ),
              ),
            ),
          ),
        ),
      );
    }
