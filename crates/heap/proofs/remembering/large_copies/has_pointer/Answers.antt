use Rattle.std.proofs.Common.{◌<◌, get_or, map, sym, ap, ◌∙◌, take_all, arith}
use Rattle.std.specs.Prelude.{is_some}
use Rattle.std.specs.List.{list_any}
use Rattle.steps.specs.Words.{target_of_word}
use Rattle.heap_objects.proofs.GraphObjects.{target-some}
use Rattle.heap_objects.proofs.Remembering.{any-more, any-here}
use Rattle.heap.proofs.remembering.large_copies.has_pointer.Goals as goal

pub returns-then-word-ne0 : goal.returns-then-word-ne0
returns-then-word-ne0 c =
    let word = get_or c.args.words.now c.loop-word.word-index 0 in
    let some : 0 < word = omega (arith, c.if-word-ne0.true) in
    sym (any-here is_some target_of_word c.args.words.now c.loop-word.word-index 0 c.loop-word-test.true (ap is_some (target-some word some)))

pub loop-word-preserved : goal.loop-word-preserved
loop-word-preserved c =
    any-more is_some target_of_word c.args.words.now c.loop-word.word-index 0 c.loop-word-test.true c.loop-word.invariant (ap (λ w. is_some (target_of_word w)) c.if-word-ne0.false)

pub returns : goal.returns
returns c = sym (ap (λ ws. list_any is_some (map target_of_word ws)) (sym (take_all c.loop-word.word-index c.args.words.now c.loop-word-test.false)) ∙ c.loop-word.invariant)
