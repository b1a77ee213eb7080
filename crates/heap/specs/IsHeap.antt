-- What holds of every heap.
use Rattle.std.specs.Prelude.{◌≡◌, length}
use Rattle.model.specs.Graph.{IsClosed}
use Rattle.steps.specs.HeapValue.{HeapValue}
use Rattle.steps.specs.Remembered.{CoversYounger}
use Rattle.heap_objects.specs.Sound.{AreObjects}

-- what holds of the objects of every heap; pointers and roots lead to objects
pub record AreHeapObjects (heap : HeapValue) : Type 0 where
  pub sound : AreObjects heap
  pub closed : IsClosed heap.graph

-- the same, and each generation has a remembered set, which has at least its objects with a pointer to a younger one
pub record IsHeap (heap : HeapValue) : Type 0 where
  pub blocks : AreHeapObjects heap
  pub sets : length heap.remembered ≡ heap.config.shape.generations
  pub remembered : CoversYounger heap.graph heap.remembered
