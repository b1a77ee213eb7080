-- What the workers together bring to the commit.
use Rattle.std.specs.Prelude.{◌≡◌, ℕ, ◌<◌, ◌≤◌, List, [], ◌++◌, ◌∷◌, length, map, slice_index, slice_index_or, Option, None, IsTrue, All}
use Rattle.std.specs.Option.{option_map}
use Rattle.model.specs.Reached.{has}
use Rattle.layout.specs.declared.place.Place.{Place}
use Rattle.layout.specs.Place.{place_word}
use Rattle.block_pool.specs.BlockValue.{BlockValue}
use Rattle.steps.specs.HeapValue.{HeapValue}
use Rattle.steps.specs.ReportValue.{renaming_of}
use Rattle.steps.specs.CollectionValue.{CollectionValue, IsOpened, young_names}
use Rattle.workers.specs.Block.{Block}
use Rattle.workers.specs.Total.{total, times}
use Rattle.workers.specs.Joined.{Each, Part, blocks_of}
use Rattle.workers.specs.Kept.{Kept, won_lists}
use Rattle.scavenge.specs.Named.{named, IsWhole}

-- the blocks that the workers leave, one worker after another
abbrev pub left_blocks : List Part → List Block
left_blocks [] = []
left_blocks (p ∷ ps) = blocks_of p.final ++ left_blocks ps

-- what the parts leave, as blocks, places by number and won numbers
pub record Brings (heap : HeapValue) (c : CollectionValue) (workers : ℕ) (f : ℕ → Option ℕ) (parts : List Part) (places : List (Option Place)) (blocks : List BlockValue) (won : List (ℕ × ℕ)) : Type 0 where
  pub opened : IsOpened heap c.generation c
  pub kept : Kept heap.graph c.generation heap.config.shape heap.config.block_words workers f parts
  pub few_words : heap.config.block_words ≤ 512
  pub some_step : 1 ≤ heap.config.shape.steps
  pub blocks_are : map (named heap.config.shape) blocks ≡ left_blocks parts
  pub whole : Each (IsWhole heap.config.shape heap.config.block_words) blocks
  pub drawn_free : (number : ℕ) → 0 < total (λ (p : Part). times number p.history.drawn) parts → IsTrue (has heap.free number)
  pub won_are : renaming_of (young_names heap.graph c.generation) won ≡ won_lists parts
  pub numbers : All (λ e. e.0 < c.cells) won
  pub places_count : length places ≡ c.cells
  pub places_are : (number : ℕ) → number < c.cells → option_map place_word (slice_index_or places number None) ≡ f (slice_index (young_names heap.graph c.generation) number)
