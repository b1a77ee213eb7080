use Rattle.std.proofs.Common.{◌∙◌, sym, Some, arith}
use Rattle.layout.proofs.Pointers.{pointer_word-one_to_one}
use Rattle.forwarding.proofs.ShortWords.{long_of_small, long_of_large, has_block}
use Rattle.forwarding.proofs.short_words.place_in.Goals as goal

pub returns-then-low-ge-LARGE : goal.returns-then-low-ge-LARGE
returns-then-low-ge-LARGE c = λ pointer is.
    let long = long_of_large c.args.word (omega (arith, c.if-low-ge-LARGE.true)) in
    pointer_word-one_to_one (Some c.large.result) pointer (omega (arith, c.large.ensures.word, long) ∙ sym is)

pub returns : goal.returns
returns c = λ pointer is.
    let long = long_of_small c.args.word (omega (arith, c.if-low-ge-LARGE.false)) in
    let block = has_block c.args.word pointer (is ∙ long) c.if-word-eq0.false c.ranges.word.fits in
    pointer_word-one_to_one (Some c.small.result) pointer (omega (arith, c.small.ensures.word, long) ∙ sym is)
