-- What becomes of a worker's part, and of what the queues tell.
use Rattle.std.specs.Prelude.{◌≡◌, ℕ, ◌<◌, List, map, flat_map, min, unwrap_or, None, All}
use Rattle.std.specs.List.{enumerate_from}
use Rattle.block_pool.specs.BlockValue.{BlockValue}
use Rattle.pending_queues.specs.declared.exports.deliveries.Delivery.{Delivery as Outcome}
use Rattle.steps.specs.HeapValue.{HeapValue}
use Rattle.steps.specs.ReportValue.{WorkerLists, all_won, renaming_of}
use Rattle.steps.specs.CollectionValue.{CollectionValue, young_names}
use Rattle.steps.specs.declared.heap_values.report.Delivery.{Delivery}
use Rattle.workers.specs.Joined.{Each, blocks_of}
use Rattle.scavenge.specs.Named.{named, IsWhole}
use Rattle.scavenge.specs.Shown.{WorkspaceValue}
use Rattle.workers.specs.Worker.{Worker}
use Rattle.settling.specs.Together.{AreReportsOf}

-- it proposes nothing, and its numbers are those of the collection
pub record IsAtRest (heap : HeapValue) (c : CollectionValue) (w : WorkspaceValue) : Type 0 where
  pub config : w.config ≡ heap.config
  pub names : w.names ≡ young_names heap.graph c.generation
  pub no_proposal : w.worker.proposal ≡ None

-- the report of a worker, the blocks that it leaves, and the large objects that it scanned
pub record IsPartOf (heap : HeapValue) (c : CollectionValue) (w : Worker) (report : WorkerLists) (blocks : List BlockValue) (large : List ℕ) : Type 0 where
  pub won : renaming_of (young_names heap.graph c.generation) report.won ≡ w.won
  pub numbers : All (λ (e : ℕ × ℕ). e.0 < c.cells) report.won
  pub scanned : report.scanned ≡ w.scanned
  pub left : map (named heap.config.shape) blocks ≡ blocks_of w
  pub whole : Each (IsWhole heap.config.shape heap.config.block_words) blocks
  pub large_are : large ≡ w.large_done

-- those of all workers, in order
pub record AreBrought (heap : HeapValue) (c : CollectionValue) (workers : List Worker) (reports : List WorkerLists) (blocks : List BlockValue) (large : List ℕ) : Type 0 where
  pub reported : AreReportsOf heap c.generation workers reports
  pub numbers : All (λ (e : ℕ × ℕ). e.0 < c.cells) (all_won reports)
  pub left : map (named heap.config.shape) blocks ≡ flat_map blocks_of workers
  pub whole : Each (IsWhole heap.config.shape heap.config.block_words) blocks
  pub large_are : large ≡ flat_map (λ (w : Worker). w.large_done) workers

-- a worker's export at a position, of which the queues tell this
abbrev pub delivery_of : ℕ → ℕ × Outcome → Delivery
delivery_of exporter e = record { exporter = exporter; position = e.0; objects = min e.1.objects 4294967295; taker = unwrap_or e.1.taker 0 }

-- all exports of a worker, by position
abbrev pub deliveries_of : ℕ → List Outcome → List Delivery
deliveries_of exporter told = map (delivery_of exporter) (enumerate_from 0 told)

-- the exports of all workers, one after another
abbrev pub all_deliveries : List (List Outcome) → List Delivery
all_deliveries told = flat_map (λ (e : ℕ × List Outcome). deliveries_of e.0 e.1) (enumerate_from 0 told)
