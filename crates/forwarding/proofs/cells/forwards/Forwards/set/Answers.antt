use Rattle.std.proofs.Common.{◌∙◌, ap, refl, Some, set, map}
use Rattle.std.proofs.lemmas.List.{map-set}
use Rattle.layout.specs.Place.{place_word}
use Rattle.forwarding.specs.Forwards.{shown_place}
use Rattle.forwarding.specs.ShownWords.{words_in}
use Rattle.forwarding.proofs.ShownPlace.{shown_by}
use Rattle.forwarding.proofs.cells.forwards.Forwards.set.Goals as goal

pub returns : goal.returns
returns g c =
    rw (← c.self.view_is, c.set.ensures.set) (map-set shown_place (words_in c.self.inside.words) c.args.name (place_word c.args.place)
    ∙ ap (set (map shown_place (words_in c.self.inside.words)) c.args.name) (shown_by (place_word c.args.place) (Some c.args.place) refl))
