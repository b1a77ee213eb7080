-- A collection in which a worker was refused a block.
use Rattle.std.specs.Prelude.{◌≡◌, ℕ, ◌≤◌, true, List, length, Option, Some, slice_get}
use Rattle.model.specs.Graph.{Graph}
use Rattle.model.specs.Destination.{Shape}
use Rattle.workers.specs.Setting.{Setting, setting_of}
use Rattle.workers.specs.WorkerSteps.{draw_wanted}
use Rattle.workers.specs.WorkerRun.{WorkerRun}
use Rattle.workers.specs.Total.{total, wins_of}
use Rattle.workers.specs.Joined.{Each, Part, IsOpening, Roomy}
use Rattle.model.specs.Collected.{IsLiveOrOlder}
use Rattle.workers.specs.Kept.{CopiesLive}

-- it ran from its opening, and may have stopped anywhere
pub record HasBegun (setting : Setting) (part : Part) : Type 0 where
  pub opening : IsOpening part.start
  pub room : Roomy setting part.start
  pub run : WorkerRun setting part.start part.final part.history

-- the parts of a collection of the generations 0 to g, where so many blocks were drawn and one worker wants another
pub record Refused (graph : Graph) (g : ℕ) (shape : Shape) (block_words workers destinations drawn : ℕ) (parts : List Part) : Type 0 where
  pub runs : Each (HasBegun (setting_of graph g shape block_words workers)) parts
  pub destinations_are : Each (λ (p : Part). length p.start.allocation ≡ destinations) parts
  pub won_once : (name : ℕ) → total (λ (p : Part). wins_of name p.final.won) parts ≤ 1
  pub only_starts : Each (λ (p : Part). Each (IsLiveOrOlder graph g) p.start.starts) parts
  pub taken_live : Each (λ (p : Part). Each (CopiesLive graph g) p.history.taken) parts
  pub all_drawn : total (λ (p : Part). length p.history.drawn) parts ≡ drawn
  -- the worker, and what the cell showed that it looked at
  pub t : ℕ
  pub part : Part
  pub there : slice_get parts t ≡ Some part
  pub cell : Option ℕ
  pub wanted : draw_wanted (setting_of graph g shape block_words workers) part.final cell ≡ true
