use Rattle.layout.specs.Place.{place_word}
use Rattle.heap.proofs.WithSets.{numbering_in}
use Rattle.heap.proofs.FoundHere.{found_here}
use Rattle.heap.proofs.heap.Heap.find.Goals as goal

pub step_and_number-number-requires-clause-numbering : goal.step_and_number-number-requires-clause-numbering
step_and_number-number-requires-clause-numbering g c =
    let opened = rw (← c.self.view_is) at c.requires.opened in
    rw (c.numbering.ensures, c.generation.ensures) (numbering_in c.self.inside.objects c.self.inside.roots.slots c.self.inside.remembered c.args.collection.now.generation c.args.collection.now.numbering opened.numbering)

pub returns-in-Some : goal.returns-in-Some
returns-in-Some g c =
    let opened = rw (← c.self.view_is) at c.requires.opened in
    let number = rw c.generation.ensures at c.step_and_number-number.ensures.number in
    rw (← c.self.view_is) (found_here c.self.inside.objects c.self.inside.roots.slots c.self.inside.remembered c.args.collection.now (place_word c.args.place) c.in-Some.object c.step_and_number-number.result.0 c.step_and_number-number.result.1 opened c.in-Some.ensures c.step_and_number-number.ensures.step number)
