-- What a collection by several workers leaves and reports.
use Rattle.std.specs.Prelude.{◌≡◌, ℕ, ◌≤◌, List, length, map, flat_map, min, Some, slice_get}
use Rattle.std.specs.List.{enumerate_from, range_with_len}
use Rattle.heap.specs.HeapValue.{HeapValue}
use Rattle.heap.specs.ReportValue.{WorkerLists, renaming_of}
use Rattle.heap.specs.CollectionValue.{young_names}
use Rattle.steps.specs.declared.heap_values.report.Delivery.{Delivery}
use Rattle.workers.specs.Block.{Block}
use Rattle.workers.specs.Worker.{Worker}
use Rattle.workers.specs.System.{System, Event}
use Rattle.workers.specs.Steps.{Run}
use Rattle.workers.specs.Joined.{Each}
use Rattle.workers.specs.Lawful.{AllEnded}
use Rattle.workers.specs.Finish.{NothingLeft}
use Rattle.settling.specs.Collects.{Collects, setting_at, opening_at}

-- each worker reports, in order: what it won, by number, and what it scanned
pub record AreReportsOf (heap : HeapValue) (g : ℕ) (workers : List Worker) (reports : List WorkerLists) : Type 0 where
  pub won : map (λ (l : WorkerLists). renaming_of (young_names heap.graph g) l.won) reports ≡ map (λ (w : Worker). w.won) workers
  pub scanned : map (λ (l : WorkerLists). l.scanned) reports ≡ map (λ (w : Worker). w.scanned) workers

-- who exported it, at which position
abbrev pub label_of : Delivery → ℕ × ℕ
label_of d = (d.exporter, d.position)

-- the labels of all exports: exporter after exporter, and each exporter's by position
abbrev pub labels_of : List (List Block) → List (ℕ × ℕ)
labels_of exported = flat_map (λ (e : ℕ × List Block). map (λ position. (e.0, position)) (range_with_len 0 (length e.1))) (enumerate_from 0 exported)

-- it tells of the block that was exported so: how many copies it had (a number that has no room is the greatest that has), and the worker that has it in its taken list, once
pub record IsDelivery (s : System) (d : Delivery) : Type 0 where
  pub exports : List Block
  pub exporter : slice_get s.exported d.exporter ≡ Some exports
  pub block : Block
  pub there : slice_get exports d.position ≡ Some block
  pub objects : d.objects ≡ min (length block.copies) 4294967295
  pub taken : List (ℕ × ℕ)
  pub taker : slice_get s.taken d.taker ≡ Some taken
  pub place : ℕ
  pub took : slice_get taken place ≡ Some (label_of d)

-- each export was delivered once, in order
pub record AreDelivered (s : System) (deliveries : List Delivery) : Type 0 where
  pub labels : map label_of deliveries ≡ labels_of s.exported
  pub each : Each (IsDelivery s) deliveries

-- what n workers report of where they stand: all ended, nothing is left, and the lists and deliveries are theirs
pub record Reports (heap : HeapValue) (g : ℕ) (last : System) (reports : List WorkerLists) (deliveries : List Delivery) : Type 0 where
  pub ended : AllEnded last
  pub left : NothingLeft last
  pub lists : AreReportsOf heap g last.workers reports
  pub delivered : AreDelivered last deliveries

-- they are those of a run of n workers, whatever events came in whatever order
pub record RunsTogether (heap : HeapValue) (g n : ℕ) (reports : List WorkerLists) (deliveries : List Delivery) : Type 0 where
  pub last : System
  pub events : List Event
  pub run : Run (setting_at heap g n) (opening_at heap g n) events last
  pub reports_are : Reports heap g last reports deliveries

-- n workers collected the generations 0 to g, in whatever order their events came
pub record CollectsTogether (old : HeapValue) (g n kept freed : ℕ) (workers : List WorkerLists) (deliveries : List Delivery) (new : HeapValue) : Type 0 where
  pub collects : Collects old g kept freed workers new
  pub runs : RunsTogether old g n workers deliveries
