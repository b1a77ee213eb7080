use Rattle.std.proofs.Common.{◌≡◌, ◌∷◌, [], length, None, Some, sym, ap, ◌∙◌, arith, length-append}
use Rattle.block_pool.specs.BlockValue.{BlockValue}
use Rattle.heap_objects.specs.Nursery.{empty_block}
use Rattle.nursery.proofs.TableSteps.{push_each}
use Rattle.heap_objects.proofs.heap_space.nurseries.nursery_table.Goals as goal

pub loop-number-preserved : goal.loop-number-preserved
loop-number-preserved g c =
    let items = c.in_ok-push.ensures.items in
    let block : c.label.new.self ≡ empty_block c.loop-number.number c.args.words = c.label.ensures ∙ ap (λ (b : BlockValue). let x : BlockValue = record b { number = c.loop-number.number; generation = 0; step = 0 } in x) c.in_ok-block.ensures in
    let each = push_each (λ n x. x ≡ Some (empty_block n c.args.words)) c.loop-number.table.items (Some c.label.new.self) None (λ n lt. c.loop-number.invariant.blocks n (omega (arith, c.loop-number.invariant.len))) (ap (λ b. Some b) block ∙ ap (λ n. Some (empty_block n c.args.words)) (sym c.loop-number.invariant.len)) in
    record {
      len = omega (arith, ap length items, length-append c.loop-number.table.items (Some c.label.new.self ∷ []), c.loop-number.invariant.len);
      blocks = λ n lt. rw items (each n (omega (arith, c.loop-number.invariant.len)));
    }
