-- What a census shows of its table.
use Rattle.std.specs.Prelude.{map}
use Rattle.model.specs.Census.{Census, StepCount}
use Rattle.steps.specs.declared.heap_values.census.StepCount as table
use Rattle.steps.specs.declared.heap_values.census.Census.TheInside.{Inside}

abbrev pub step_value : table.StepCount → StepCount
step_value c = record { generation = c.generation; step = c.step; objects = c.objects; words = c.words }

abbrev pub census_view : Inside → Census
census_view c = record { steps = map step_value c.steps.items; large_objects = c.large_objects; large_words = c.large_words; roots = c.roots; remembered = c.remembered }
