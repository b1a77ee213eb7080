use Rattle.std.specs.Prelude.{map}
use Rattle.layout.specs.Place.{place_word}
use Rattle.settling.proofs.Parted.{BroughtSoFar}
use Rattle.settling.proofs.parts.brought.Given as goal

abbrev pub invariant-loop-workspace : goal.invariant-loop-workspace
invariant-loop-workspace g l = record { brought : BroughtSoFar l.heap l.collection l.fn.workspaces.items l.workspace-iterator.rest.items l.reports.items l.blocks.items (map place_word l.large.items) }
