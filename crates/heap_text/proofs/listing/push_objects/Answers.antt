use Rattle.std.proofs.Common.{map}
use Rattle.model.specs.Graph.{object_at}
use Rattle.model.specs.Text.{object_line}
use Rattle.layout.specs.Place.{place_word}
use Rattle.model.proofs.Joined.{written_all}
use Rattle.heap_text.proofs.Pointed.{has_word}
use Rattle.heap_text.proofs.listing.push_objects.Goals as goal

pub push_object-requires-clause-has : goal.push_object-requires-clause-has
push_object-requires-clause-has g c = has_word c.args.numbering.now.places.items c.loop-place.place-index c.place-item.result (rw c.deref-place-items.ensures.value at c.loop-place-test.true) (rw c.deref-place-items.ensures.value at c.place-item.is)

pub returns : goal.returns
returns g c =
    written_all (λ name. object_line (map place_word c.args.numbering.now.places.items) name (object_at c.args.heap.now.graph name)) place_word c.args.text.now.items c.loop-place.text.items c.args.numbering.now.places.items c.loop-place.place-index (rw c.deref-place-items.ensures.value at c.loop-place-test.false) c.loop-place.invariant
