use Rattle.std.proofs.Common.{◌≡◌, ◌<◌, ◌+◌, ◌++◌, [], ◌∷◌, true, false, length, map, sym, ap, ◌∙◌, arith, length-append}
use Rattle.std.proofs.lemmas.List.{length-map}
use Rattle.std.specs.Prelude.{is_some}
use Rattle.layout.specs.Place.{place_word}
use Rattle.heap_text.proofs.Numbered.{order_old, lacks, numbered_more}
use Rattle.heap_text.proofs.Visiting.{visited_new}
use Rattle.heap_text.proofs.Steps.{pushed}
use Rattle.heap_text.proofs.numbering.Numbering.add.Goals as goal

pub returns-then-is_some-clause-order : goal.returns-then-is_some-clause-order
returns-then-is_some-clause-order g c =
    let lt : c.number_of-index.result < length c.args.self.now.numbers.items = omega (arith, c.requires.numbering.count, c.requires.all.opened.cells, c.number_of-index.ensures.in_range) in
    let some : is_some c.index.result.now ≡ true = sym c.is_some.ensures ∙ c.if-is_some.true in
    order_old c.args.heap.now c.args.all.now.generation _ (map place_word c.args.self.now.places.items) c.requires.numbering c.number_of-index.result (place_word c.args.place) lt c.number_of-index.ensures.number c.index.result.now c.index.ensures some

pub returns-clause-numbering : goal.returns-clause-numbering
returns-clause-numbering g c =
    let lt : c.number_of-index.result < length c.args.self.now.numbers.items = omega (arith, c.requires.numbering.count, c.requires.all.opened.cells, c.number_of-index.ensures.in_range) in
    let none : is_some c.index.result.now ≡ false = sym c.is_some.ensures ∙ c.if-is_some.false in
    let lacking = lacks c.args.heap.now c.args.all.now.generation _ (map place_word c.args.self.now.places.items) c.requires.numbering c.number_of-index.result (place_word c.args.place) lt c.number_of-index.ensures.number c.index.result.now c.index.ensures none in
    let new : map place_word c.push.new.self.items ≡ map place_word c.args.self.now.places.items ++ place_word c.args.place ∷ [] = pushed c.args.self.now.places.items c.push.new.self.items c.args.place c.in_ok-push.ensures.items in
    let count : c.len.result ≡ length (map place_word c.args.self.now.places.items) + 1 =
    omega (arith, c.len.ensures, c.push.new.self.ok.0, ap length c.in_ok-push.ensures.items, length-append c.args.self.now.places.items (c.args.place ∷ []), length-map c.args.self.now.places.items place_word) in
    numbered_more c.args.heap.now c.args.all.now.generation _ (map place_word c.args.self.now.places.items) c.requires.numbering c.number_of-index.result (place_word c.args.place) lt c.number_of-index.ensures.number c.len.result (map place_word c.push.new.self.items) lacking new count c.requires.there

pub returns-clause-order : goal.returns-clause-order
returns-clause-order g c =
    let lt : c.number_of-index.result < length c.args.self.now.numbers.items = omega (arith, c.requires.numbering.count, c.requires.all.opened.cells, c.number_of-index.ensures.in_range) in
    let none : is_some c.index.result.now ≡ false = sym c.is_some.ensures ∙ c.if-is_some.false in
    let lacking = lacks c.args.heap.now c.args.all.now.generation _ (map place_word c.args.self.now.places.items) c.requires.numbering c.number_of-index.result (place_word c.args.place) lt c.number_of-index.ensures.number c.index.result.now c.index.ensures none in
    let new : map place_word c.push.new.self.items ≡ map place_word c.args.self.now.places.items ++ place_word c.args.place ∷ [] = pushed c.args.self.now.places.items c.push.new.self.items c.args.place c.in_ok-push.ensures.items in
    new ∙ sym (visited_new (map place_word c.args.self.now.places.items) (place_word c.args.place) lacking)
