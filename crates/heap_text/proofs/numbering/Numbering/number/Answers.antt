use Rattle.std.proofs.Common.{◌<◌, length, map, arith}
use Rattle.layout.specs.Place.{place_word}
use Rattle.heap_text.proofs.Numbered.{number_there, number_is, has_there}
use Rattle.heap_text.proofs.numbering.Numbering.number.Goals as goal

pub number_of-index-requires-clause-young : goal.number_of-index-requires-clause-young
number_of-index-requires-clause-young g c = c.requires.all.young (place_word c.args.place) (has_there _ _ _ _ c.requires.numbering (place_word c.args.place) c.requires.has)

pub unwrap-requires : goal.unwrap-requires
unwrap-requires g c =
    let lt : c.number_of-index.result < length c.args.self.now.numbers.items = omega (arith, c.requires.numbering.count, c.requires.all.opened.cells, c.number_of-index.ensures.in_range) in
    number_there c.args.heap.now c.args.all.now.generation _ (map place_word c.args.self.now.places.items) c.requires.numbering c.number_of-index.result (place_word c.args.place) lt c.number_of-index.ensures.number c.index.result.now c.index.ensures c.requires.has

pub returns : goal.returns
returns g c =
    let lt : c.number_of-index.result < length c.args.self.now.numbers.items = omega (arith, c.requires.numbering.count, c.requires.all.opened.cells, c.number_of-index.ensures.in_range) in
    number_is c.args.heap.now c.args.all.now.generation _ (map place_word c.args.self.now.places.items) c.requires.numbering c.number_of-index.result (place_word c.args.place) lt c.number_of-index.ensures.number c.index.result.now c.unwrap.result c.index.ensures c.unwrap.ensures
