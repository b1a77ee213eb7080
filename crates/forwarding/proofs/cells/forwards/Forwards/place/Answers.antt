use Rattle.std.proofs.Common.{◌∙◌, ◌<◌, sym, length, arith}
use Rattle.std.proofs.lemmas.Option.{get_or_from_slice_get}
use Rattle.forwarding.specs.ShownWords.{words_in}
use Rattle.forwarding.proofs.ShownPlace.{shown_read, flat_shown}
use Rattle.forwarding.proofs.cells.forwards.Forwards.place.Goals as goal

pub returns : goal.returns
returns g c =
    let below : c.args.name < length (words_in c.self.inside.words) = omega (arith, c.if-name-len.false, c.len.ensures) in
    c.flatten.ensures
    ∙ (sym (flat_shown c.get.result c.from_word.result c.from_word.ensures.reads c.from_word.ensures.none)
    ∙ rw (← c.self.view_is) (shown_read (words_in c.self.inside.words) c.args.name c.get.result c.get.result below (sym (get_or_from_slice_get (words_in c.self.inside.words) c.args.name c.get.result c.get.result c.get.ensures))))
