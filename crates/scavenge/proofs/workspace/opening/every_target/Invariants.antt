use Rattle.std.proofs.Common.{◌≡◌, ◌%◌, map, take}
use Rattle.layout.specs.Place.{place_word}
use Rattle.heap.specs.SlotView.{slot_value}
use Rattle.heap.specs.CollectionValue.{target_of_slot}
use Rattle.workers.specs.System.{every}
use Rattle.scavenge.proofs.workspace.opening.every_target.Given as goal

abbrev pub invariant-loop-slot : goal.invariant-loop-slot
invariant-loop-slot g l = record {
  targets : map place_word l.targets.items ≡ every l.n l.t 0 (map target_of_slot (map slot_value (take l.slot-index l.slots)));
  turn : l.turn ≡ l.slot-index % l.n;
}
