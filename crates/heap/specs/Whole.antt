-- What a heap keeps from call to call.
use Rattle.std.specs.Prelude.{◌≡◌, length}
use Rattle.model.specs.Graph.{IsClosed}
use Rattle.steps.specs.HeapValue.{HeapValue}
use Rattle.steps.specs.Remembered.{CoversYounger}

-- pointers and roots lead to objects; each generation has a remembered set, which has at least its objects with a pointer
-- to a younger one
pub record IsWhole (heap : HeapValue) : Type 0 where
  pub closed : IsClosed heap.graph
  pub sets : length heap.remembered ≡ heap.config.shape.generations
  pub covers : CoversYounger heap.graph heap.remembered
