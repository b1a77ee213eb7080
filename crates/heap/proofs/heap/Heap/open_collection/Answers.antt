use Rattle.heap.proofs.WithSets.{closed_in}
use Rattle.heap.proofs.Wholes.{heap_is}
use Rattle.heap.proofs.heap.Heap.open_collection.Goals as goal

pub opened-requires-clause-closed : goal.opened-requires-clause-closed
opened-requires-clause-closed g c = closed_in c.self.inside.objects c.self.inside.roots.slots c.self.inside.remembered c.self.invariant.closed

pub opened-requires-clause-covers : goal.opened-requires-clause-covers
opened-requires-clause-covers g c = c.self.invariant.covers

pub opened-requires-clause-generations : goal.opened-requires-clause-generations
opened-requires-clause-generations g c = c.self.invariant.sets

pub returns-then-generation-generations-clause-sound : goal.returns-then-generation-generations-clause-sound
returns-then-generation-generations-clause-sound g c = rw (← c.self.view_is) (heap_is c.self.inside.objects c.self.inside.roots.slots c.self.inside.remembered c.free_count-free.ensures.sound c.self.invariant)

pub returns-in-Ok-clause-sound : goal.returns-in-Ok-clause-sound
returns-in-Ok-clause-sound g c = rw (← c.self.view_is) (heap_is c.self.inside.objects c.self.inside.roots.slots c.self.inside.remembered c.free_count-free.ensures.sound c.self.invariant)

pub returns-in-Err-clause-sound : goal.returns-in-Err-clause-sound
returns-in-Err-clause-sound g c = rw (← c.self.view_is) (heap_is c.self.inside.objects c.self.inside.roots.slots c.self.inside.remembered c.free_count-free.ensures.sound c.self.invariant)
