-- In which order the workers of a machine scanned and took.
use Rattle.std.proofs.Common.{◌≤◌, ℕ, List, arith}
use Rattle.workers.specs.Lawful.{AllEnded}
use Rattle.workers.specs.Alone.{AreEmpty}
use Rattle.steps.specs.HeapValue.{HeapValue}
use Rattle.steps.specs.CollectionValue.{CollectionValue}
use Rattle.heap.proofs.SoundHeap.{heap_empty}
use Rattle.machine.specs.InterleavedValue.{InterleavedValue, setting_in, destinations_in, targets_in, system_of}
use Rattle.settling.proofs.Blocks.{stands_has}
use Rattle.workers.specs.Scans.{ScansInBlocks}
use Rattle.workers.specs.Taken.{AreTakenInOrder}
use Rattle.workers.proofs.Scans.{scans_in_order}
use Rattle.workers.proofs.Taken.{taken_in_order}
use Rattle.machine.specs.MachineValue.{MachineValue, IsMachine, machine_of}

module _ (heap : HeapValue) (c : CollectionValue) (v : InterleavedValue) (k : IsMachine heap c v) where
  pub taken : AreTakenInOrder (machine_of v).system
  taken = taken_in_order (setting_in v) (destinations_in v) v.workers (targets_in v) v.heap.free (system_of v) k.reached

  empty : AreEmpty v.heap.graph v.heap.free
  empty number offset l o = heap_empty v.heap k.ready.sound number offset (stands_has number v.heap.free l) o

  pub in_order : AllEnded (system_of v) → ScansInBlocks (machine_of v).system.workers (machine_of v).heap.free
  in_order ended =
      scans_in_order v.heap.graph v.collection.generation v.heap.config.shape v.heap.config.block_words (destinations_in v) v.workers (targets_in v) v.heap.free (system_of v)
      k.reached empty ended (let l = k.ready.range.most_words in omega (arith, l))
