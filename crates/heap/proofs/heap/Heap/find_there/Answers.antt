use Rattle.layout.specs.Place.{place_word}
use Rattle.heap.proofs.WithSets.{numbering_in}
use Rattle.heap.proofs.FoundHere.{found_here}
use Rattle.heap.proofs.heap.Heap.find_there.Goals as goal

pub find-number-requires-clause-numbering : goal.find-number-requires-clause-numbering
find-number-requires-clause-numbering g c =
    let opened = rw (← c.self.view_is) at c.requires.opened in
    rw (c.numbering.ensures, c.generation.ensures) (numbering_in c.self.inside.objects c.self.inside.roots.slots c.self.inside.remembered c.args.collection.now.generation c.args.collection.now.numbering opened.numbering)

pub returns : goal.returns
returns g c =
    let opened = rw (← c.self.view_is) at c.requires.opened in
    let number = rw c.generation.ensures at c.find-number.ensures.number in
    rw (← c.self.view_is) (found_here c.self.inside.objects c.self.inside.roots.slots c.self.inside.remembered c.args.collection.now (place_word c.args.place) c.find-number.result.0 c.find-number.result.1 c.find-number.result.2 opened c.find-number.ensures.object c.find-number.ensures.step number)
