use Rattle.heap.proofs.Flagged.{has_room}
use Rattle.heap.proofs.roots.roots.Roots.reserve.Goals as goal

pub returns-clause-room : goal.returns-clause-room
returns-clause-room g c = has_room c.reserve-2.result _ c.in_ok-reserve.ensures.room (rw c.vacant_key.ensures.value at c.reserve-2.ensures.within)
