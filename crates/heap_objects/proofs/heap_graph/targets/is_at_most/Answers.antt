use Rattle.std.proofs.Common.{sym, ◌∙◌}
use Rattle.layout.specs.Place.{place_word}
use Rattle.heap_objects.proofs.GraphObjects.{at_most_is}
use Rattle.heap_objects.proofs.heap_graph.targets.is_at_most.Goals as goal

pub returns-in-Some : goal.returns-in-Some
returns-in-Some g c = λ graph shows closed.
    at_most_is graph c.args.generation (place_word c.args.place) _ (sym (c.generation_of.ensures graph shows closed) ∙ c.in-Some.is)

pub returns-in-None : goal.returns-in-None
returns-in-None g c = λ graph shows closed.
    at_most_is graph c.args.generation (place_word c.args.place) _ (sym (c.generation_of.ensures graph shows closed) ∙ c.in-None.is)
