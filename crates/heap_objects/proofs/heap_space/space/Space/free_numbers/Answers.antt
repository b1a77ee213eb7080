use Rattle.std.proofs.Common.{rules}
use Rattle.heap_objects.proofs.heap_space.space.Space.free_numbers.Goals as goal

pub returns : goal.returns
returns g c = search rules
