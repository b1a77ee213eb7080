use Rattle.std.proofs.Common.{◌≡◌, ℕ, ◌<◌, true, Some}
use Rattle.std.specs.Prelude.{slice_get}
use Rattle.machine.specs.InterleavedValue.{system_of}
use Rattle.machine.proofs.workers_in_turn.interleaved.InterleavedCollection.lowest_going.Given as goal

abbrev pub invariant-loop-t : goal.invariant-loop-t
invariant-loop-t g l = record { set : (e : ℕ) → e < l.t → slice_get (system_of l.self).ended e ≡ Some true }
