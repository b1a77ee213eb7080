-- What a machine whose workers all ended brings to a commit.
use Rattle.std.specs.Prelude.{◌≡◌, ℕ, List, Option}
use Rattle.layout.specs.declared.place.Place.{Place}
use Rattle.block_pool.specs.BlockValue.{BlockValue}
use Rattle.steps.specs.CollectionValue.{CollectionValue}
use Rattle.steps.specs.ReportValue.{WorkerLists, all_won}
use Rattle.steps.specs.SettledValue.{IsSettled}
use Rattle.steps.specs.declared.heap_values.report.Delivery.{Delivery}
use Rattle.settling.specs.Collects.{ScansOnce}
use Rattle.settling.specs.Together.{Reports}
use Rattle.workers.specs.Scans.{ScansInBlocks}
use Rattle.workers.specs.Taken.{AreTakenInOrder}
use Rattle.machine.specs.MachineValue.{MachineValue}

-- it may be committed; each name was won once, and each copy was scanned once, in the order of its block; each export was taken once, in its order; and the lists and deliveries are those of where the workers stand
pub record Settles (m : MachineValue) (collection : CollectionValue) (places : List (Option Place)) (blocks : List BlockValue) (workers : List WorkerLists) (deliveries : List Delivery) : Type 0 where
  pub collection_is : collection ≡ m.collection
  pub may_commit : IsSettled m.heap collection places blocks (all_won workers)
  pub once : ScansOnce m.heap m.collection.generation workers
  pub in_order : ScansInBlocks m.system.workers m.heap.free
  pub taken : AreTakenInOrder m.system
  pub reports_are : Reports m.heap m.collection.generation m.system workers deliveries
