use Rattle.std.proofs.Common.{◌∙◌}
use Rattle.layout.specs.ObjectRef.{raw_of}
use Rattle.layout.specs.Place.{place_word}
use Rattle.heap_objects.proofs.HeldObjects.{holder_shown, holder_none}
use Rattle.heap_objects.proofs.heap_graph.remembered.is_holder.Goals as goal

pub returns-in-Some : goal.returns-in-Some
returns-in-Some g c = λ graph shows.
    c.points_below.ensures graph shows (c.in-Some.ensures.closed graph shows)
    ∙ holder_shown graph c.args.holder_generation (place_word c.args.place) (raw_of c.in-Some.object) (c.in-Some.ensures.object graph shows)

pub returns-in-None : goal.returns-in-None
returns-in-None g c = λ graph shows. holder_none graph c.args.holder_generation (place_word c.args.place) (c.in-None.ensures.object graph shows)
