use Rattle.layout.specs.Place.{small_word}
use Rattle.heap.proofs.WithSets.{numbering_in}
use Rattle.heap.proofs.FoundHere.{found_in_here}
use Rattle.heap.proofs.heap.Heap.find_small.Goals as goal

pub find_small-number-requires-clause-numbering : goal.find_small-number-requires-clause-numbering
find_small-number-requires-clause-numbering g c =
    let opened = rw (← c.self.view_is) at c.requires.opened in
    rw (c.numbering.ensures, c.generation.ensures) (numbering_in c.self.inside.objects c.self.inside.roots.slots c.self.inside.remembered c.args.collection.now.generation c.args.collection.now.numbering opened.numbering)

pub returns : goal.returns
returns g c =
    let opened = rw (← c.self.view_is) at c.requires.opened in
    let number = rw c.generation.ensures at c.find_small-number.ensures.number in
    rw (← c.self.view_is) (found_in_here c.self.inside.objects c.self.inside.roots.slots c.self.inside.remembered c.args.collection.now (small_word c.args.at.block c.args.at.offset) c.args.at.offset _ _ _ opened c.find_small-number.ensures.small c.find_small-number.ensures.block c.find_small-number.ensures.step number)
