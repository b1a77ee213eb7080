use Rattle.std.proofs.Common.{◌≡◌, ◌++◌, map}
use Rattle.machine.proofs.Ended.{workspace_of}
use Rattle.machine.proofs.interleaved_settling.settled.workspaces_of.Given as goal

abbrev pub invariant-loop-member : goal.invariant-loop-member
invariant-loop-member g l = record { so_far : l.workspaces.items ++ map workspace_of l.member-iterator.rest.items ≡ map workspace_of l.fn.members.items }
