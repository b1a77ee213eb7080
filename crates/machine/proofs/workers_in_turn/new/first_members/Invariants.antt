use Rattle.std.proofs.Common.{◌≡◌, ℕ, ◌++◌, map, Some}
use Rattle.std.specs.Prelude.{slice_get}
use Rattle.std.specs.List.{range_with_len}
use Rattle.machine.specs.InterleavedValue.{MemberValue}
use Rattle.machine.specs.IsInterleaved.{IsFirst}
use Rattle.machine.proofs.workers_in_turn.new.first_members.Given as goal

abbrev pub invariant-loop-seat : goal.invariant-loop-seat
invariant-loop-seat g l = record {
  seats : map (λ (m : MemberValue). m.seat) l.members.items ++ l.seat-iterator.rest.items ≡ range_with_len 0 l.n;
  each : (t : ℕ) (m : MemberValue) → slice_get l.members.items t ≡ Some m → IsFirst l.heap l.collection l.n t m;
}
