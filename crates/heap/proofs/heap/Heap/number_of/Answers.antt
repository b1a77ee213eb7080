use Rattle.heap.proofs.WithSets.{numbering_in, young_in}
use Rattle.heap.proofs.heap.Heap.number_of.Goals as goal

pub number_of-requires-clause-numbering : goal.number_of-requires-clause-numbering
number_of-requires-clause-numbering g c =
    let opened = rw (← c.self.view_is) at c.requires.opened in
    rw (c.numbering.ensures, c.generation.ensures) (numbering_in c.self.inside.objects c.self.inside.roots.slots c.self.inside.remembered c.args.collection.now.generation c.args.collection.now.numbering opened.numbering)

pub number_of-requires-clause-young : goal.number_of-requires-clause-young
number_of-requires-clause-young g c =
    let young = rw (← c.self.view_is) at c.requires.young in
    rw c.generation.ensures (young_in c.self.inside.objects c.self.inside.roots.slots c.self.inside.remembered c.args.collection.now.generation _ young)
