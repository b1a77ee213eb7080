-- The sizes that a `Config` keeps.
use Rattle.model.specs.Config.{Config}
use Rattle.steps.specs.declared.config.Config.TheInside.{Inside}

abbrev pub view_of : Inside → Config
view_of c = record { block_words = c.block_words; blocks = c.blocks; mutators = c.mutators; nursery_blocks = c.nursery_blocks; shape = record { generations = c.generations; steps = c.steps } }

abbrev pub fields_of : Config → Inside
fields_of c = record { block_words = c.block_words; blocks = c.blocks; mutators = c.mutators; nursery_blocks = c.nursery_blocks; generations = c.shape.generations; steps = c.shape.steps }
