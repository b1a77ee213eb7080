-- Why a machine didn't open, and why an event didn't come.
use Rattle.scavenge.specs.declared.looking.LookError.{LookError}
use Rattle.scavenge.specs.declared.looking.LookError.TheVariants as looked
use Rattle.heap.specs.declared.heap.OpenError.{OpenError}
use Rattle.heap.specs.declared.heap.OpenError.TheVariants as open_error
use Rattle.machine.specs.declared.machine_error.MachineError.{MachineError}
use Rattle.machine.specs.declared.machine_error.MachineError.TheVariants as machine_error
use Rattle.machine.specs.declared.step_error.StepError.{StepError}
use Rattle.machine.specs.declared.step_error.StepError.TheVariants.{HeapFull, NoMemory}

abbrev pub refusal_of : LookError → StepError
refusal_of looked.HeapFull = HeapFull
refusal_of looked.NoMemory = NoMemory

abbrev pub error_of_open : OpenError → MachineError
error_of_open open_error.NoGeneration = machine_error.NoGeneration
error_of_open open_error.NoMemory = machine_error.NoMemory
