-- A machine as its calls see it.
use Rattle.std.specs.Prelude.{◌≡◌, ℕ, Bool, List, map, refl}
use Rattle.std.specs.Coded.{Coded, code_by, coded×, coded_list, coded_bool, coded_ℕ}
use Rattle.model.specs.Destination.{dest_count}
use Rattle.steps.specs.HeapValue.{HeapValue, heap_code}
use Rattle.steps.specs.CollectionValue.{CollectionValue, target_of_slot}
use Rattle.steps.specs.CollectionCode.{collection_code}
use Rattle.workers.specs.Block.{Block}
use Rattle.workers.specs.Setting.{Setting}
use Rattle.workers.specs.Worker.{Worker}
use Rattle.workers.specs.System.{System}
use Rattle.workers.specs.Finish.{IsReached}
use Rattle.scavenge.specs.Codes.{copies_code, worker_code}
use Rattle.scavenge.specs.ReadyToCollect.{IsReadyToCollect}
use Rattle.machine.specs.InterleavedValue.{InterleavedValue, setting_for}
use Rattle.machine.specs.InterleavedValue as interleaved

-- the heap, the collection of it, how many workers there are, and where they stand
pub record MachineValue : Type 0 where
  pub heap : HeapValue
  pub collection : CollectionValue
  pub workers : ℕ
  pub system : System

abbrev system_code : Coded System
system_code =
    code_by
    (List (ℕ × ℕ) × (List ℕ × (List Worker × (List (List Block) × (List (List Block) × (List (List (ℕ × ℕ)) × (List Bool × List Bool)))))))
    (coded× (coded_list (coded× coded_ℕ coded_ℕ)) (coded× (coded_list coded_ℕ) (coded× (coded_list worker_code) (coded× (coded_list (coded_list copies_code)) (coded× (coded_list (coded_list copies_code)) (coded× (coded_list (coded_list (coded× coded_ℕ coded_ℕ))) (coded× (coded_list coded_bool) (coded_list coded_bool))))))))
    (λ s. (s.forwarded, (s.free, (s.workers, (s.queues, (s.exported, (s.taken, (s.idle, s.ended))))))))
    (λ p. record { forwarded = p.0; free = p.1.0; workers = p.1.1.0; queues = p.1.1.1.0; exported = p.1.1.1.1.0; taken = p.1.1.1.1.1.0; idle = p.1.1.1.1.1.1.0; ended = p.1.1.1.1.1.1.1 })
    (λ _. refl)

abbrev pub machine_code : Coded MachineValue
machine_code =
    code_by (HeapValue × (CollectionValue × (ℕ × System))) (coded× heap_code (coded× collection_code (coded× coded_ℕ system_code)))
    (λ m. (m.heap, (m.collection, (m.workers, m.system))))
    (λ p. record { heap = p.0; collection = p.1.0; workers = p.1.1.0; system = p.1.1.1 })
    (λ _. refl)

-- the machine whose workers these are
abbrev pub machine_of : InterleavedValue → MachineValue
machine_of v = record { heap = v.heap; collection = v.collection; workers = v.workers; system = interleaved.system_of v }

-- what its workers see
abbrev pub setting_in : MachineValue → Setting
setting_in m = setting_for m.heap m.collection m.workers

-- some events from the opening on come to where it stands
abbrev pub HasReached : MachineValue → Type 0
HasReached m = IsReached (setting_in m) (dest_count m.heap.config.shape m.collection.generation) m.workers (map target_of_slot m.collection.slots) m.heap.free m.system

-- what holds of a machine with this heap and collection
pub record IsMachine (heap : HeapValue) (c : CollectionValue) (v : InterleavedValue) : Type 0 where
  pub heap_is : heap ≡ v.heap
  pub collection_is : c ≡ v.collection
  pub ready : IsReadyToCollect v.heap v.collection
  pub reached : HasReached (machine_of v)
