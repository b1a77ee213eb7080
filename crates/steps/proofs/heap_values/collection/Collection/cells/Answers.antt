use Rattle.std.proofs.Common.{rules}
use Rattle.steps.proofs.heap_values.collection.Collection.cells.Goals as goal

pub returns : goal.returns
returns g c = search rules
