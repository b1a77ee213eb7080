use Rattle.heap.proofs.SoundHeap.{heap_places}
use Rattle.collection_tests.proofs.in_turn.scavenge_tests.workspaces.assert_slot.Goals as goal

pub has_slot-requires-clause-places : goal.has_slot-requires-clause-places
has_slot-requires-clause-places g c = heap_places c.args.heap.now c.open_collection.ensures.sound
