use Rattle.std.proofs.Common.{◌≡◌, length, map, take}
use Rattle.model.specs.DestinationList.{destination_list}
use Rattle.steps.specs.StepPairs.{step_pair}
use Rattle.steps.proofs.destinations.Destinations.new.Given as goal

abbrev pub invariant-loop-number : goal.invariant-loop-number
invariant-loop-number l = record {
  len : length l.places.items ≡ l.number;
  places : map step_pair l.places.items ≡ take l.number (destination_list l.config.shape l.generation);
}
