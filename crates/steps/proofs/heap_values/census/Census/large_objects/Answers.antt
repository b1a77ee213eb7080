use Rattle.std.proofs.Common.{rules}
use Rattle.steps.proofs.heap_values.census.Census.large_objects.Goals as goal

pub returns : goal.returns
returns c = search rules
