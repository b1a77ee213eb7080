use Rattle.std.proofs.Common.{◌∙◌, ap}
use Rattle.layout.specs.Place.{place_word}
use Rattle.heap_objects.proofs.GraphObjects.{generation-small, generation-large}
use Rattle.heap_objects.proofs.heap_graph.targets.generation_of.Goals as goal

pub returns-in-Small : goal.returns-in-Small
returns-in-Small g c = λ graph shows closed.
    c.generation_at.ensures ∙ generation-small graph c.args.table.now c.args.large.now c.requires.short shows c.in-Small.at.block c.in-Small.at.offset (place_word c.args.place) c.in-Small.at.block_in_range c.in-Small.at.offset_in_range (ap place_word c.in-Small.is) closed

pub returns-in-Large : goal.returns-in-Large
returns-in-Large g c = λ graph shows closed.
    c.large_generation.ensures ∙ generation-large graph c.args.table.now c.args.large.now c.requires.short shows c.in-Large.of.number (place_word c.args.place) (ap place_word c.in-Large.is)
