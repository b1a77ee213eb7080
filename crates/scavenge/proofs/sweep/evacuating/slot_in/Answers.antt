use Rattle.std.proofs.Common.{ap, ◌∙◌}
use Rattle.scavenge.specs.Slots.{objects_of}
use Rattle.scavenge.proofs.Seeing.{slot_seen, seen_is, can_read}
use Rattle.scavenge.proofs.sweep.evacuating.slot_in.Goals as goal

pub current-requires : goal.current-requires
current-requires g c = record { pointer = can_read c.args.heap.now c.args.sweep.now.worker c.requires.closed c.requires.places c.requires.untouched }

pub returns-clause-slot : goal.returns-clause-slot
returns-clause-slot g c = ap (slot_seen (objects_of c.args.heap.now)) c.current.ensures.slot ∙ seen_is (objects_of c.args.heap.now) c.args.sweep.now.worker c.requires.untouched
