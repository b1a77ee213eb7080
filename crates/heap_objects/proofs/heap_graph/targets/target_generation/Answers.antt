use Rattle.std.proofs.Common.{sym, ap}
use Rattle.std.specs.Prelude.{option_and_then}
use Rattle.std.specs.Option.{option_map}
use Rattle.model.specs.Graph.{object_at}
use Rattle.heap_objects.proofs.GraphObjects.{target-found, target-none}
use Rattle.heap_objects.proofs.heap_graph.targets.target_generation.Goals as goal

pub returns-in-Some : goal.returns-in-Some
returns-in-Some g c = λ graph shows closed.
    target-found graph c.args.table.now c.args.large.now c.requires.short shows c.in-Some.place c.args.word c.generation_of.result c.in-Some.ensures.some (c.generation_of.ensures graph shows) closed

pub returns-in-None : goal.returns-in-None
returns-in-None g c = λ graph shows closed.
    sym (ap (λ t. option_map (λ o. o.generation) (option_and_then (object_at graph) t)) (target-none graph c.args.table.now c.args.large.now c.requires.short shows c.args.word c.in-None.ensures.none closed))
