use Rattle.std.proofs.Common.{◌∙◌, ap, set, map}
use Rattle.std.proofs.lemmas.List.{map-set}
use Rattle.forwarding.specs.ShortWords.{long_word}
use Rattle.forwarding.proofs.cells.forwards.Words.set.Goals as goal

pub returns-in-Listed-clause-set : goal.returns-in-Listed-clause-set
returns-in-Listed-clause-set g c = rw c.in-Listed.is (map-set long_word c.in-Listed.words.items c.args.name c.short_word_of.result
    ∙ ap (set (map long_word c.in-Listed.words.items) c.args.name) c.short_word_of.ensures)
