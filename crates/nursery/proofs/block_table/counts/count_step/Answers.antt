use Rattle.std.proofs.Common.{◌≡◌, ◌<◌, ◌≤◌, None, get_or, length, arith, ◌∙◌, sym, ap}
use Rattle.std.proofs.lemmas.List.{length-map}
use Rattle.std.proofs.lemmas.List.Sums.{sum_by_more}
use Rattle.steps.specs.StepPairs.{step_pair}
use Rattle.nursery.specs.Table.{slot_len, slot_words, step_slot}
use Rattle.nursery.proofs.TableSteps.{get_or_any}
use Rattle.nursery.proofs.TableReads.{sum-all}
use Rattle.nursery.proofs.StepBlocks.{step_table, step_table_at, step_counted}
use Rattle.nursery.proofs.block_table.counts.count_step.Goals as goal

pub loop-slot-preserved : goal.loop-slot-preserved
loop-slot-preserved g c =
    let table = c.args.table.now in
    let at = step_pair c.args.at in
    let i = c.loop-slot.slot-index in
    let lt : i < length (step_table at table) = omega (arith, length-map table (step_slot at), c.loop-slot-test.true) in
    let slot : get_or (step_table at table) i None ≡ step_slot at c.slot-item.result = step_table_at at table i ∙ ap (step_slot at) (get_or_any table i None c.slot-item.result c.loop-slot-test.true ∙ sym c.slot-item.is) in
    let lens = sum_by_more slot_len (step_table at table) i None lt in
    let words = sum_by_more slot_words (step_table at table) i None lt in
    let len : slot_len (get_or (step_table at table) i None) ≡ c.count_slot-more_objects.result.0 = ap slot_len slot ∙ sym c.count_slot-more_objects.ensures.objects in
    let used : slot_words (get_or (step_table at table) i None) ≡ c.count_slot-more_objects.result.1 = ap slot_words slot ∙ sym c.count_slot-more_objects.ensures.words in
    record {
      objects = omega (arith, lens, len, c.loop-slot.invariant.objects);
      words = omega (arith, words, used, c.loop-slot.invariant.words);
      few = omega (arith, c.count_slot-more_objects.ensures.few, c.loop-slot.invariant.few);
      small = omega (arith, c.count_slot-more_objects.ensures.small, c.loop-slot.invariant.small);
    }

pub returns : goal.returns
returns g c = λ config range blocks.
    let table = c.args.table.now in
    let at = step_pair c.args.at in
    let end : length (step_table at table) ≤ c.loop-slot.slot-index = omega (arith, c.loop-slot-test.false, length-map table (step_slot at)) in
    step_counted config table at c.loop-slot.objects c.loop-slot.words range blocks
    (c.loop-slot.invariant.objects ∙ sum-all slot_len (step_table at table) c.loop-slot.slot-index end)
    (c.loop-slot.invariant.words ∙ sum-all slot_words (step_table at table) c.loop-slot.slot-index end)
