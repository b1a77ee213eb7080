use Rattle.std.proofs.Common.{◌<◌, ◌≤◌, Some, length, map, sym, ap, ◌∙◌, arith, take_all}
use Rattle.model.specs.Destination.{dest_count}
use Rattle.model.specs.DestinationList.{destination_list}
use Rattle.steps.specs.StepPairs.{step_pair}
use Rattle.steps.proofs.Placing.{one_more, list_count, list_place}
use Rattle.steps.proofs.destinations.Destinations.new.Goals as goal

pub loop-number-preserved : goal.loop-number-preserved
loop-number-preserved c =
    let count = c.dest_count-number-end.ensures in
    let below : c.loop-number.number < dest_count c.args.config.shape c.args.generation = omega (arith, c.loop-number-test.true, c.loop-number.auto.number-end, count.value) in
    let place = list_place c.args.config c.args.generation count.in_range c.requires c.loop-number.number below ∙ ap (λ p. Some p) (sym c.destination_at.ensures) in
    record {
      len = omega (arith, c.push.ensures.len, c.loop-number.invariant.len);
      places = ap (map step_pair) c.push.ensures.items ∙ one_more (destination_list c.args.config.shape c.args.generation) c.loop-number.places.items c.destination_at.result c.loop-number.number c.loop-number.invariant.places place;
    }

pub returns : goal.returns
returns c =
    let count = c.dest_count-number-end.ensures in
    let all : length (destination_list c.args.config.shape c.args.generation) ≤ c.loop-number.number = omega (arith, c.loop-number-test.false, c.loop-number.auto.number-end, count.value, list_count c.args.config c.args.generation count.in_range c.requires) in
    c.loop-number.invariant.places ∙ take_all c.loop-number.number (destination_list c.args.config.shape c.args.generation) all
