use Rattle.remembered_set.proofs.PlaceLaws.{no_places}
use Rattle.remembered_set.proofs.place_set.PlaceSet.new.Goals as goal

pub invariant_of-result : goal.invariant_of-result
invariant_of-result g c = rw c.new-places.ensures.items (no_places c.new.result c.new.ensures)
