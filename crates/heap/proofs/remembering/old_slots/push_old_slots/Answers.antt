use Rattle.std.proofs.Common.{◌≡◌, ◌+◌, ◌-◌, ◌++◌, suc, map, length, ap, ◌∙◌, arith}
use Rattle.std.specs.Prelude.{flat_map}
use Rattle.model.specs.Destination.{numbers_from}
use Rattle.model.specs.OldSlots.{slots_of_generation}
use Rattle.steps.specs.CollectionValue.{field_slot_of}
use Rattle.steps.specs.SlotView.{slot_value}
use Rattle.heap_objects.proofs.FieldSlots.{pushed_more, pushed_none, generations-more}
use Rattle.heap_objects.specs.Objects.{graph_in}
use Rattle.heap.proofs.remembering.old_slots.push_old_slots.Goals as goal

pub loop-h-init : goal.loop-h-init
loop-h-init g c = record {
  low = omega arith;
  high = omega arith;
  pushed =
      let none : c.args.generation + 1 - (c.args.generation + 1) ≡ 0 = omega arith in
      pushed_none (map slot_value c.args.slots.now.items) _ (ap (λ n. flat_map (slots_of_generation (graph_in c.args.objects.now) c.args.generation) (numbers_from (c.args.generation + 1) n)) none);
}

pub loop-h-preserved : goal.loop-h-preserved
loop-h-preserved g c =
    let from = c.args.generation + 1 in
    let h = c.loop-h.h in
    let count : h + 1 - from ≡ suc (h - from) = omega (arith, c.loop-h.invariant.low) in
    let last : h ≡ from + (h - from) = omega (arith, c.loop-h.invariant.low) in
    record {
      low = omega (arith, c.loop-h.invariant.low);
      high = omega (arith, c.loop-h-test.true, c.generations-h-end.ensures.value);
      pushed =
          pushed_more _ _ _ _ _ _ c.loop-h.invariant.pushed c.in_ok-push_generation.ensures
          (generations-more (graph_in c.args.objects.now) c.args.generation from (h - from) (h + 1 - from) h count last);
    }

pub returns : goal.returns
returns g c =
    let none : c.loop-h.h - (c.args.generation + 1) ≡ length c.args.sets.now - 1 - c.args.generation = omega (arith, c.loop-h.invariant.low, c.loop-h.invariant.high, c.loop-h-test.false, c.generations-h-end.ensures.value) in
    c.loop-h.invariant.pushed
    ∙ ap (λ n. map slot_value c.args.slots.now.items ++ map field_slot_of (flat_map (slots_of_generation (graph_in c.args.objects.now) c.args.generation) (numbers_from (c.args.generation + 1) n))) none
