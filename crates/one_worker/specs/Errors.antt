-- Why a collection was not carried out.
use Rattle.heap.specs.declared.heap.OpenError.{OpenError}
use Rattle.heap.specs.declared.heap.OpenError.TheVariants as open_error
use Rattle.one_worker.specs.declared.collecting.CollectError.{CollectError}
use Rattle.one_worker.specs.declared.collecting.CollectError.TheVariants.{NoGeneration, NoMemory}

abbrev pub error_of_open : OpenError → CollectError
error_of_open open_error.NoGeneration = NoGeneration
error_of_open open_error.NoMemory = NoMemory
