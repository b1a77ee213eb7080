-- The default of each size, as it is written.
use Rattle.std.specs.Prelude.{◌≡◌, string_bytes}
use Rattle.std.specs.Fmt.{decimal}
use Rattle.steps.specs.declared.config.Sizes.{Sizes}
use Rattle.trace_driver.specs.declared.command_line.words.Defaults.{Defaults}

-- each default is the size in decimal
pub record AreDefaultsOf (sizes : Sizes) (defaults : Defaults) : Type 0 where
  pub mutators : string_bytes defaults.mutators ≡ decimal sizes.mutators
  pub generations : string_bytes defaults.generations ≡ decimal sizes.generations
  pub steps : string_bytes defaults.steps ≡ decimal sizes.steps
  pub block_words : string_bytes defaults.block_words ≡ decimal sizes.block_words
  pub nursery_blocks : string_bytes defaults.nursery_blocks ≡ decimal sizes.nursery_blocks
  pub blocks : string_bytes defaults.blocks ≡ decimal sizes.blocks
