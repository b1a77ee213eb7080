-- Each worked trace writes its output.
use Rattle.std.proofs.Common.{refl}
use Rattle.std.specs.Fmt.{digits}
use Rattle.model.specs.declared.kind.Kind.TheVariants.{NoGeneration}
use Rattle.model.specs.Laws.{Writes, Faults}
use Rattle.model.specs.Rows.{config_of, first_trace, first_output, pointer_trace, pointer_output, cycle_trace, cycle_output, remembered_trace, remembered_output, dead_old_trace, dead_old_output, large_trace, large_output, full_trace, full_output, ageing_trace, ageing_output, made_old_trace, made_old_output, two_mutators_trace, two_mutators_output, block_left_trace, block_left_output, get_trace, get_output, no_generation_trace, no_generation_output}

pub first_row : Writes (config_of 512 1 4 1 2) first_trace first_output
unfolding digits
first_row = record { output_is = refl; no_fault = refl }

pub pointer_row : Writes (config_of 64 1 4 1 2) pointer_trace pointer_output
unfolding digits
pointer_row = record { output_is = refl; no_fault = refl }

pub cycle_row : Writes (config_of 64 1 4 1 2) cycle_trace cycle_output
unfolding digits
cycle_row = record { output_is = refl; no_fault = refl }

pub remembered_row : Writes (config_of 64 1 4 2 2) remembered_trace remembered_output
unfolding digits
remembered_row = record { output_is = refl; no_fault = refl }

pub dead_old_row : Writes (config_of 64 1 4 2 2) dead_old_trace dead_old_output
unfolding digits
dead_old_row = record { output_is = refl; no_fault = refl }

pub large_row : Writes (config_of 64 1 4 2 2) large_trace large_output
unfolding digits
large_row = record { output_is = refl; no_fault = refl }

pub full_row : Writes (config_of 64 1 1 2 2) full_trace full_output
unfolding digits
full_row = record { output_is = refl; no_fault = refl }

pub ageing_row : Writes (config_of 64 1 4 2 2) ageing_trace ageing_output
unfolding digits
ageing_row = record { output_is = refl; no_fault = refl }

pub made_old_row : Writes (config_of 64 1 4 2 2) made_old_trace made_old_output
unfolding digits
made_old_row = record { output_is = refl; no_fault = refl }

pub two_mutators_row : Writes (config_of 16 2 1 2 2) two_mutators_trace two_mutators_output
unfolding digits
two_mutators_row = record { output_is = refl; no_fault = refl }

pub block_left_row : Writes (config_of 64 1 2 2 2) block_left_trace block_left_output
unfolding digits
block_left_row = record { output_is = refl; no_fault = refl }

pub get_row : Writes (config_of 64 1 4 2 2) get_trace get_output
unfolding digits
get_row = record { output_is = refl; no_fault = refl }

pub no_generation_row : Faults (config_of 64 1 4 1 2) no_generation_trace no_generation_output 5 NoGeneration
unfolding digits
no_generation_row = record { output_is = refl; fault_is = refl }
