-- Nurseries with no object.
use Rattle.std.specs.Prelude.{ℕ, [], None}
use Rattle.block_pool.specs.BlockValue.{BlockValue}
use Rattle.nursery.specs.NurseryValue.{NurseryValue}

-- a block with no object
abbrev pub empty_block : ℕ → ℕ → BlockValue
empty_block number words = record { number = number; generation = 0; step = 0; words = words; objects = []; front = 0; sent = None; origins = [] }

-- the nursery filled from its first block on
abbrev pub from_first : NurseryValue → NurseryValue
from_first nursery = record nursery { current = 0 }
