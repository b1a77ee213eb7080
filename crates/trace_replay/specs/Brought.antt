-- What the workers of a collection bring to a commit.
use Rattle.std.specs.Prelude.{◌≡◌, ℕ, ◌+◌, List, Option}
use Rattle.layout.specs.declared.place.Place.{Place}
use Rattle.block_pool.specs.BlockValue.{BlockValue}
use Rattle.steps.specs.HeapValue.{HeapValue}
use Rattle.steps.specs.CollectionValue.{CollectionValue}
use Rattle.steps.specs.ReportValue.{WorkerLists, all_won}
use Rattle.steps.specs.SettledValue.{IsSettled}
use Rattle.steps.specs.declared.heap_values.report.Delivery.{Delivery}
use Rattle.workers.specs.System.{System}
use Rattle.settling.specs.Collects.{ScansOnce, setting_at, opening_at}
use Rattle.settling.specs.Together.{Reports}
use Rattle.trace_replay.specs.Runs.{Finishes, IsSchedule}

-- of a collection of the generations 0 to g, by workers that stand so at its end: it may be committed, and the lists and deliveries are theirs
pub record IsBrought (heap : HeapValue) (g : ℕ) (last : System) (collection : CollectionValue) (places : List (Option Place)) (blocks : List BlockValue) (workers : List WorkerLists) (deliveries : List Delivery) : Type 0 where
  pub reports_are : Reports heap g last workers deliveries
  pub generation_is : collection.generation ≡ g
  pub may_commit : IsSettled heap collection places blocks (all_won workers)
  pub once : ScansOnce heap g workers

-- by n workers: the lines after line `start` bring them from their opening on to their end
pub record BringsToCommit (heap : HeapValue) (g n start : ℕ) (text : List ℕ) (commit : ℕ) (rest : List ℕ) (collection : CollectionValue) (places : List (Option Place)) (blocks : List BlockValue) (workers : List WorkerLists) (deliveries : List Delivery) : Type 0 where
  pub last : System
  pub schedule : IsSchedule (setting_at heap g n) (opening_at heap g n) (start + 1) text commit rest last
  pub brought : IsBrought heap g last collection places blocks workers deliveries

-- by n workers, each event the one that comes next by itself
pub record ComesToCommit (heap : HeapValue) (g n : ℕ) (collection : CollectionValue) (places : List (Option Place)) (blocks : List BlockValue) (workers : List WorkerLists) (deliveries : List Delivery) : Type 0 where
  pub last : System
  pub finishes : Finishes (setting_at heap g n) (opening_at heap g n) last
  pub brought : IsBrought heap g last collection places blocks workers deliveries
