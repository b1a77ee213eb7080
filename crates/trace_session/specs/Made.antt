-- The heaps that calls make.
use Rattle.std.specs.Prelude.{◌≡◌, ℕ, List, Option, Some, slice_set}
use Rattle.model.specs.Graph.{without_root}
use Rattle.model.specs.Config.{Config}
use Rattle.heap.specs.HeapValue.{HeapValue, empty_heap}
use Rattle.heap.specs.Commands.{Allocates, AddsRoot, Changes, IsValue, Stores, pointer_of}
use Rattle.heap.specs.ReportValue.{WorkerLists}
use Rattle.steps.specs.declared.heap_values.report.Delivery.{Delivery}
use Rattle.settling.specs.Collects.{CollectsAlone}
use Rattle.settling.specs.Together.{CollectsTogether}
use Rattle.workers_in_threads.specs.Reports.{CollectsApart}

-- from a heap with no object on, one call after another, each collection by one worker, by several in turn or by several on threads
pub data MadeByCalls : HeapValue → Type 0 where
  made : (config : Config) → MadeByCalls (empty_heap config)
  allocated : {old new : HeapValue} (mutator p q root : ℕ) → MadeByCalls old → Allocates old mutator p q root new → MadeByCalls new
  released : {old : HeapValue} (root : ℕ) → MadeByCalls old → MadeByCalls (record old { graph = without_root old.graph root })
  stored : {old new : HeapValue} (root field : ℕ) (value : Option ℕ) → MadeByCalls old → IsValue old.graph value → Stores old root field value new → MadeByCalls new
  written : {old new : HeapValue} (root field word : ℕ) → MadeByCalls old → Changes old root (λ o. record o { plain = slice_set o.plain field word }) new → MadeByCalls new
  loaded : {old new : HeapValue} (name root field new_root : ℕ) → MadeByCalls old → pointer_of old.graph root field ≡ Some (Some name) → AddsRoot old name new_root new → MadeByCalls new
  collected : {old new : HeapValue} (g kept freed : ℕ) (workers : List WorkerLists) (deliveries : List Delivery) → MadeByCalls old → CollectsAlone old g kept freed workers deliveries new → MadeByCalls new
  collected_together : {old new : HeapValue} (g n kept freed : ℕ) (workers : List WorkerLists) (deliveries : List Delivery) → MadeByCalls old → CollectsTogether old g n kept freed workers deliveries new → MadeByCalls new
  collected_apart : {old new : HeapValue} (g n kept freed : ℕ) (workers : List WorkerLists) (deliveries : List Delivery) → MadeByCalls old → CollectsApart old g n kept freed workers deliveries new → MadeByCalls new
