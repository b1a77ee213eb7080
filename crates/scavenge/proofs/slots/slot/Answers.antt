use Rattle.std.proofs.Common.{sym, ap, ◌∙◌}
use Rattle.scavenge.specs.Shown.{known_of}
use Rattle.scavenge.specs.Slots.{objects_of}
use Rattle.scavenge.proofs.Seeing.{slot_seen, seen_is, can_read}
use Rattle.scavenge.proofs.slots.slot.Goals as goal

pub current-requires-clause-pointer : goal.current-requires-clause-pointer
current-requires-clause-pointer g c = can_read c.args.heap.now c.args.workspace.now.worker c.requires.closed c.requires.places c.requires.untouched

pub returns-in-Holds : goal.returns-in-Holds
returns-in-Holds g c = ap (λ k. slot_seen (objects_of c.args.heap.now) (known_of k)) (sym c.in-Holds.is) ∙ ap (slot_seen (objects_of c.args.heap.now)) c.current.ensures ∙ seen_is (objects_of c.args.heap.now) c.args.workspace.now.worker c.requires.untouched

pub returns-in-OfLarge : goal.returns-in-OfLarge
returns-in-OfLarge g c = c.heap_pointer.ensures ∙ ap (λ k. slot_seen (objects_of c.args.heap.now) (known_of k)) (sym c.in-OfLarge.is) ∙ ap (slot_seen (objects_of c.args.heap.now)) c.current.ensures ∙ seen_is (objects_of c.args.heap.now) c.args.workspace.now.worker c.requires.untouched
