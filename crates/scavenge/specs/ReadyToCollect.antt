-- When a collection may begin.
use Rattle.steps.specs.ConfigRange.{IsInRange}
use Rattle.steps.specs.HeapValue.{HeapValue}
use Rattle.steps.specs.CollectionValue.{CollectionValue, IsOpened}
use Rattle.heap.specs.IsHeap.{IsHeap}

-- a collection that was opened on the heap as it is, and what holds of the heap
pub record IsReadyToCollect (heap : HeapValue) (c : CollectionValue) : Type 0 where
  pub opened : IsOpened heap c.generation c
  pub sound : IsHeap heap
  pub range : IsInRange heap.config
