-- The sizes that a heap may have.
use Rattle.std.specs.Prelude.{◌≡◌, ◌%◌, ◌≤◌}
use Rattle.model.specs.Config.{Config}
use Rattle.steps.specs.declared.config.Sizes.{Sizes}

-- each size is within its range
pub record IsInRange (config : Config) : Type 0 where
  pub least_words : 16 ≤ config.block_words
  pub most_words : config.block_words ≤ 512
  pub fours : config.block_words % 4 ≡ 0
  pub some_block : 1 ≤ config.blocks
  pub most_blocks : config.blocks ≤ 65535
  pub some_mutator : 1 ≤ config.mutators
  pub most_mutators : config.mutators ≤ 16
  pub some_nursery : 1 ≤ config.nursery_blocks
  pub most_nursery : config.nursery_blocks ≤ 64
  pub some_generation : 1 ≤ config.shape.generations
  pub most_generations : config.shape.generations ≤ 4
  pub some_step : 1 ≤ config.shape.steps
  pub most_steps : config.shape.steps ≤ 4

-- the sizes that were asked for
abbrev pub sizes_of : Sizes → Config
sizes_of s = record { block_words = s.block_words; blocks = s.blocks; mutators = s.mutators; nursery_blocks = s.nursery_blocks; shape = record { generations = s.generations; steps = s.steps } }

-- the sizes of a heap for which none are given
abbrev pub default_sizes : Sizes
default_sizes = record { block_words = 512; blocks = 4096; mutators = 1; nursery_blocks = 4; generations = 2; steps = 2 }
