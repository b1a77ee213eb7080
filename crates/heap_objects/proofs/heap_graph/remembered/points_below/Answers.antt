use Rattle.std.proofs.Common.{map, sym, ap, ◌∙◌, take_all}
use Rattle.std.specs.Prelude.{nat_lt}
use Rattle.std.specs.List.{list_any}
use Rattle.model.specs.Graph.{object_at}
use Rattle.model.specs.Census.{points_to}
use Rattle.steps.specs.Words.{target_of_word}
use Rattle.heap_objects.proofs.Remembering.{any-more, any-here}
use Rattle.heap_objects.proofs.heap_graph.remembered.points_below.Goals as goal

pub returns-then-leads_below : goal.returns-then-leads_below
returns-then-leads_below g c = λ graph shows closed.
    let i = c.loop-word.word-index in
    let here = c.leads_below.ensures graph shows (closed i 0 c.loop-word-test.true) in
    sym (any-here (points_to (λ target. nat_lt target.generation c.args.generation) (object_at graph)) target_of_word c.args.pointers.now i 0 c.loop-word-test.true (sym here ∙ c.if-leads_below.true))

pub loop-word-preserved : goal.loop-word-preserved
loop-word-preserved g c = λ graph shows closed.
    let i = c.loop-word.word-index in
    let here = c.leads_below.ensures graph shows (closed i 0 c.loop-word-test.true) in
    any-more (points_to (λ target. nat_lt target.generation c.args.generation) (object_at graph)) target_of_word c.args.pointers.now i 0 c.loop-word-test.true
    (c.loop-word.invariant graph shows closed) (sym here ∙ c.if-leads_below.false)

pub returns : goal.returns
returns g c = λ graph shows closed.
    sym (ap (λ ws. list_any (points_to (λ target. nat_lt target.generation c.args.generation) (object_at graph)) (map target_of_word ws)) (sym (take_all c.loop-word.word-index c.args.pointers.now c.loop-word-test.false))
    ∙ c.loop-word.invariant graph shows closed)
