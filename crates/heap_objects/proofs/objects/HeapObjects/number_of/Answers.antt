use Rattle.std.proofs.Common.{◌<◌, arith}
use Rattle.layout.specs.Place.{small_word, large_word}
use Rattle.heap_objects.proofs.Numbers.{bases_of, small_of_young, numbered_small, numbered_large, large_of_young}
use Rattle.heap_objects.proofs.objects.HeapObjects.number_of.Goals as goal

pub number_of-requires-clause-bases : goal.number_of-requires-clause-bases
number_of-requires-clause-bases g c =
    let numbering = rw (← c.self.view_is) at c.requires.numbering in
    rw c.blocks-in-Small.ensures (bases_of _ _ c.self.invariant c.args.generation c.args.numbering.now numbering)

pub number_of-requires-clause-young : goal.number_of-requires-clause-young
number_of-requires-clause-young g c =
    let young = rw (← c.self.view_is, c.in-Small.is) at c.requires.young in
    let at = c.in-Small.at in
    let lt : small_word at.block at.offset < large_word 0 = omega (arith, at.block_in_range, at.offset_in_range) in
    small_of_young _ _ c.self.invariant c.args.generation (small_word at.block at.offset) lt young

pub bounds-large-number : goal.bounds-large-number
bounds-large-number g c =
    let numbering = rw (← c.self.view_is) at c.requires.numbering in
    let young = rw (← c.self.view_is, c.in-Large.is) at c.requires.young in
    rw c.large.ensures (numbering.covers_large c.in-Large.number.number young)

pub returns-in-Small : goal.returns-in-Small
returns-in-Small g c = rw (← c.self.view_is, c.in-Small.is) (numbered_small _ _ c.self.invariant c.args.generation (small_word c.in-Small.at.block c.in-Small.at.offset) c.number_of.result c.number_of.ensures)

pub returns-in-Large : goal.returns-in-Large
returns-in-Large g c =
    let numbering = rw (← c.self.view_is) at c.requires.numbering in
    let young = rw (← c.self.view_is, c.in-Large.is) at c.requires.young in
    let at = large_of_young _ _ c.self.invariant c.args.generation c.in-Large.number.number young in
    let lt = numbering.covers_large c.in-Large.number.number young in
    rw (← c.self.view_is, c.in-Large.is, c.large.ensures) (numbered_large _ _ c.self.invariant c.args.generation c.in-Large.number.number at.object _ at.there at.young (numbering.large c.in-Large.number.number lt))
