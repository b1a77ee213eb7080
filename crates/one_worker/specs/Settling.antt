-- What a worker by itself brings to the commit of its collection.
use Rattle.std.specs.Prelude.{◌≡◌, ℕ, ◌≤◌, List, [], ◌∷◌, map}
use Rattle.steps.specs.ReportValue.{WorkerLists, renaming_of}
use Rattle.steps.specs.CollectionValue.{young_names}
use Rattle.workers.specs.Block.{Block}
use Rattle.workers.specs.Worker.{Worker}
use Rattle.workers.specs.Total.{times, wins_of}
use Rattle.scavenge.specs.Named.{named}
use Rattle.one_worker.specs.SerialValue.{SerialValue, lane_of}

-- one worker reports: what it won, by number, and what it scanned
pub record IsReportOf (v : SerialValue) (workers : List WorkerLists) : Type 0 where
  pub lists : WorkerLists
  pub alone : workers ≡ lists ∷ []
  pub won : renaming_of (young_names v.heap.graph v.collection.generation) lists.won ≡ v.workspace.worker.won
  pub scanned : lists.scanned ≡ v.workspace.worker.scanned

-- it won each name at most once, and scanned each place that it won as often as it won it, and no other
pub record ScansWhatItWon (w : Worker) : Type 0 where
  pub won_once : (name : ℕ) → wins_of name w.won ≤ 1
  pub scanned : (place : ℕ) → times place w.scanned ≡ times place (map (λ e. e.1) w.won)

-- the blocks that it exported, in order
abbrev pub exports_of : SerialValue → List Block
exports_of v = map (named v.workspace.config.shape) (lane_of v).sent
