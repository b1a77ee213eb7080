use Rattle.std.proofs.Common.{◌≡◌, ◌<◌, ◌≤◌, ◌+◌, None, true, false, length, get_or, arith, ◌∙◌, sym, ap, below_more}
use Rattle.std.proofs.lemmas.List.{length-map, length-drop, length-take}
use Rattle.std.specs.Prelude.{drop, ◌-◌}
use Rattle.nursery.specs.Areas.{holds_young}
use Rattle.nursery.specs.Table.{slot_at, slot_len, young_slot, young_table}
use Rattle.nursery.proofs.TableSteps.{get_or_end, part_inside, part_at}
use Rattle.nursery.proofs.TableReads.{counted_more}
use Rattle.nursery.proofs.YoungBlocks.{young_at}
use Rattle.nursery.proofs.block_table.counts.count_run.Goals as goal

pub loop-slot-preserved : goal.loop-slot-preserved
loop-slot-preserved g c =
    let table = c.args.table.now in
    let bases = c.loop-slot.bases.items in
    let reached : c.len.result + c.loop-slot.slot-index ≡ length bases = omega (arith, c.len.ensures, c.args.bases.now.ok.0, c.loop-slot.invariant.reached) in
    let inside : length bases < length table = omega (arith, reached, part_inside table c.len.result c.loop-slot.slot-index c.loop-slot-test.true) in
    let slot : get_or table (length bases) None ≡ c.slot-item.result = ap (λ n. get_or table n None) (sym reached) ∙ part_at table c.len.result c.loop-slot.slot-index c.loop-slot-test.true c.slot-item.result None c.slot-item.is in
    let len : length c.push.new.self.items ≡ length bases + 1 = omega (arith, c.in_ok-push.ensures.len, c.loop-slot.bases.ok.0, c.push.new.self.ok.0) in
    record {
      reached = omega (arith, len, c.loop-slot.invariant.reached);
      in_table = omega (arith, len, inside);
      young = λ b low lt. below_more (λ k. length c.args.bases.now.items ≤ k → holds_young c.args.generation (slot_at table k) ≡ true) (length bases)
          (λ k below from. c.loop-slot.invariant.young k from below)
          (λ _. ap (λ o. holds_young c.args.generation o) slot ∙ sym c.in-Some.ensures.young)
          b (omega (arith, len, lt)) low;
      counted = rw c.in_ok-push.ensures.items (counted_more (young_table c.args.generation table) bases c.loop-slot.objects c.in-Some.len (omega (arith, inside, length-map table (young_slot c.args.generation)))
          (ap slot_len (young_at table c.args.generation (length bases) ∙ ap (young_slot c.args.generation) slot) ∙ sym c.in-Some.ensures.value) c.loop-slot.invariant.counted);
      few = omega (arith, len, c.loop-slot.invariant.few, c.in-Some.ensures.few);
    }

pub returns-after-loop-slot-clause-run : goal.returns-after-loop-slot-clause-run
returns-after-loop-slot-clause-run g c =
    let table = c.args.table.now in
    let end : length table ≤ length c.loop-slot.bases.items = omega (arith, c.loop-slot-test.false, c.len.ensures, c.args.bases.now.ok.0, c.loop-slot.invariant.reached, length-take (length table - c.len.result) (drop c.len.result table), length-drop c.len.result table) in
    record {
      no_shorter = omega (arith, c.loop-slot.invariant.reached);
      young = c.loop-slot.invariant.young;
      end = ap (λ o. holds_young c.args.generation o) (get_or_end table (length c.loop-slot.bases.items) None end);
    }

pub returns-in_default-clause-run : goal.returns-in_default-clause-run
returns-in_default-clause-run g c =
    let table = c.args.table.now in
    let reached : c.len.result + c.loop-slot.slot-index ≡ length c.loop-slot.bases.items = omega (arith, c.len.ensures, c.args.bases.now.ok.0, c.loop-slot.invariant.reached) in
    let slot : get_or table (length c.loop-slot.bases.items) None ≡ c.slot-item.result = ap (λ n. get_or table n None) (sym reached) ∙ part_at table c.len.result c.loop-slot.slot-index c.loop-slot-test.true c.slot-item.result None c.slot-item.is in
    let none : false ≡ holds_young c.args.generation c.slot-item.result = c.in_default.ensures.young in
    record {
      no_shorter = omega (arith, c.loop-slot.invariant.reached);
      young = c.loop-slot.invariant.young;
      end = ap (λ o. holds_young c.args.generation o) slot ∙ sym none;
    }
