use Rattle.std.proofs.Common.{sym, ap, ◌∙◌}
use Rattle.model.specs.Graph.{object_at}
use Rattle.steps.specs.Words.{target_of_word}
use Rattle.heap_objects.proofs.Remembering.{is_below, points-below}
use Rattle.heap_objects.proofs.heap_graph.remembered.leads_below.Goals as goal

pub returns-in-Some : goal.returns-in-Some
returns-in-Some g c = λ graph shows closed.
    ap (is_below c.args.generation) (sym c.in-Some.is ∙ c.target_generation.ensures graph shows closed) ∙ points-below (object_at graph) c.args.generation (target_of_word c.args.word)

pub returns-in-None : goal.returns-in-None
returns-in-None g c = λ graph shows closed.
    ap (is_below c.args.generation) (sym c.in-None.is ∙ c.target_generation.ensures graph shows closed) ∙ points-below (object_at graph) c.args.generation (target_of_word c.args.word)
