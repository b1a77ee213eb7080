-- How many generations a heap has.
use Rattle.std.proofs.Common.{◌≤◌, rules}
use Rattle.model.specs.Config.{Config}
use Rattle.steps.specs.ConfigRange.{IsInRange}

pub some_generation : (config : Config) → IsInRange config → 1 ≤ config.shape.generations
some_generation config is = search rules

pub few_generations : (config : Config) → IsInRange config → config.shape.generations ≤ 4
few_generations config is = search rules
