use Rattle.std.proofs.Common.{map, arith}
use Rattle.steps.specs.SlotView.{slot_value}
use Rattle.heap_objects.specs.Collecting.{IsNextLarge}
use Rattle.heap.proofs.KeptSlots.{done_more, done_all}
use Rattle.heap.proofs.heap_commit.large_slots.large_slots.Goals as goal

pub loop-number-preserved : goal.loop-number-preserved
loop-number-preserved g c =
    let next = rw c.in-Some.is at c.next_large.ensures in
    let number : IsNextLarge c.args.objects.now c.loop-number.from c.in-Some.number.number = next in
    record {
      done = done_more c.args.objects.now c.args.g c.args.places.now c.requires.sound c.loop-number.from c.in-Some.number.number (map slot_value c.loop-number.slots.items) (map slot_value c.push_kept.new.slots.items) number c.in_ok-push_kept.ensures c.loop-number.invariant.done;
      in_range = omega (arith, number.in_range);
    }

pub returns : goal.returns
returns g c =
    let none = rw c.in_default.is at c.next_large.ensures in
    done_all c.args.objects.now c.args.g c.args.places.now c.requires.sound c.loop-number.from (map slot_value c.loop-number.slots.items) none c.loop-number.invariant.done
