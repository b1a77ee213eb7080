-- A collection by several workers on one thread, as its calls see it, and as a system of workers.
use Rattle.std.specs.Prelude.{◌≡◌, ℕ, Bool, true, List, length, map, slice_index, refl, if◌then◌else◌}
use Rattle.std.specs.Coded.{Coded, code_by, coded×, coded_list, coded_bool, coded_ℕ}
use Rattle.model.specs.Destination.{Shape, dest_count}
use Rattle.layout.specs.declared.place.Place.{Place}
use Rattle.layout.specs.Place.{place_word}
use Rattle.block_pool.specs.ClaimsValue.{ClaimsValue, SeatValue, claims_code, seat_code}
use Rattle.steps.specs.HeapValue.{HeapValue, heap_code}
use Rattle.steps.specs.CollectionValue.{CollectionValue, target_of_slot, young_names}
use Rattle.steps.specs.CollectionCode.{collection_code}
use Rattle.forwarding.specs.Plain.{PlainPassValue}
use Rattle.forwarding.specs.Plain.{PlainValue as PlainCellsValue}
use Rattle.pending_queues.specs.PlainValue.{PlainLane}
use Rattle.pending_queues.specs.PlainValue.{PlainValue as PlainQueuesValue}
use Rattle.scavenge.specs.Handed.{CopiesKeyValue}
use Rattle.workers.specs.Block.{Block}
use Rattle.workers.specs.Setting.{Setting, setting_of, is_large_name}
use Rattle.workers.specs.Worker.{Worker}
use Rattle.workers.specs.System.{System, Event, cell_of}
use Rattle.workers.specs.WorkerSteps.{cell_wanted, draw_wanted}
use Rattle.workers.specs.Steps.{Step, IsAwake}
use Rattle.scavenge.specs.Named.{named}
use Rattle.scavenge.specs.Shown.{WorkspaceValue}
use Rattle.scavenge.specs.Slots.{seen}
use Rattle.scavenge.specs.Codes.{cells_code, pass_code, queues_code, workspace_code}
use Rattle.scavenge.specs.Waiting.{waiting_in, left_of}

-- one worker: its seat at the queues, its own part, what it took (exporter and position), and whether it is idle and has ended
pub record MemberValue : Type 0 where
  pub seat : ℕ
  pub workspace : WorkspaceValue
  pub taken : List (ℕ × ℕ)
  pub idle : Bool
  pub ended : Bool

-- the heap and the collection of it; the cells, and what is known and won of them; what blocks are drawn from, and which were drawn; the queues; how many workers there are, how many of them are idle, and each
pub record InterleavedValue : Type 0 where
  pub heap : HeapValue
  pub collection : CollectionValue
  pub cells : PlainCellsValue
  pub pass : PlainPassValue
  pub claims : ClaimsValue
  pub draws : SeatValue
  pub queues : PlainQueuesValue CopiesKeyValue
  pub workers : ℕ
  pub idlers : ℕ
  pub members : List MemberValue

abbrev pub member_code : Coded MemberValue
member_code =
    code_by (ℕ × (WorkspaceValue × (List (ℕ × ℕ) × (Bool × Bool)))) (coded× coded_ℕ (coded× workspace_code (coded× (coded_list (coded× coded_ℕ coded_ℕ)) (coded× coded_bool coded_bool))))
    (λ m. (m.seat, (m.workspace, (m.taken, (m.idle, m.ended)))))
    (λ p. record { seat = p.0; workspace = p.1.0; taken = p.1.1.0; idle = p.1.1.1.0; ended = p.1.1.1.1 })
    (λ _. refl)

abbrev pub interleaved_code : Coded InterleavedValue
interleaved_code =
    code_by
    (HeapValue × (CollectionValue × (PlainCellsValue × (PlainPassValue × (ClaimsValue × (SeatValue × (PlainQueuesValue CopiesKeyValue × (ℕ × (ℕ × List MemberValue)))))))))
    (coded× heap_code (coded× collection_code (coded× cells_code (coded× pass_code (coded× claims_code (coded× seat_code (coded× queues_code (coded× coded_ℕ (coded× coded_ℕ (coded_list member_code))))))))))
    (λ s. (s.heap, (s.collection, (s.cells, (s.pass, (s.claims, (s.draws, (s.queues, (s.workers, (s.idlers, s.members))))))))))
    (λ p. record { heap = p.0; collection = p.1.0; cells = p.1.1.0; pass = p.1.1.1.0; claims = p.1.1.1.1.0; draws = p.1.1.1.1.1.0; queues = p.1.1.1.1.1.1.0; workers = p.1.1.1.1.1.1.1.0; idlers = p.1.1.1.1.1.1.1.1.0; members = p.1.1.1.1.1.1.1.1.1 })
    (λ _. refl)

-- a win of a cell by its number, as workers see it: the name, and where it stands, which for a large object is its own place
abbrev pub forwarded_at : HeapValue → CollectionValue → ℕ → Place → ℕ × ℕ
forwarded_at heap c number place =
    let name = slice_index (young_names heap.graph c.generation) number in
    (name, if is_large_name (seen heap c) name then name else place_word place)

-- what was won by all workers together, in order
abbrev pub forwarded_in : HeapValue → CollectionValue → PlainPassValue → List (ℕ × ℕ)
forwarded_in heap c pass = map (λ (e : ℕ × Place). forwarded_at heap c e.0 e.1) pass.won

abbrev pub queue_in : Shape → PlainLane → List Block
queue_in shape lane = map (named shape) (waiting_in lane)

abbrev pub exports_in : Shape → PlainLane → List Block
exports_in shape lane = map (named shape) lane.sent

abbrev pub worker_of : MemberValue → Worker
worker_of m = m.workspace.worker

-- the system of all its workers
abbrev pub system_of : InterleavedValue → System
system_of v =
    record {
      forwarded = forwarded_in v.heap v.collection v.pass;
      free = left_of v.claims.source.free v.draws.drawn;
      workers = map worker_of v.members;
      queues = map (queue_in v.heap.config.shape) v.queues.lanes;
      exported = map (exports_in v.heap.config.shape) v.queues.lanes;
      taken = map (λ m. m.taken) v.members;
      idle = map (λ m. m.idle) v.members;
      ended = map (λ m. m.ended) v.members;
    }

-- there are n workers, each with a queue
pub record HasWorkers (s : System) (n : ℕ) : Type 0 where
  pub workers : length s.workers ≡ n
  pub queues : length s.queues ≡ n
  pub idle : length s.idle ≡ n

-- what so many workers see of a heap that is collected
abbrev pub setting_for : HeapValue → CollectionValue → ℕ → Setting
setting_for heap c n = setting_of heap.graph c.generation heap.config.shape heap.config.block_words n

abbrev pub setting_in : InterleavedValue → Setting
setting_in v = setting_for v.heap v.collection v.workers

abbrev pub targets_in : InterleavedValue → List ℕ
targets_in v = map target_of_slot v.collection.slots

abbrev pub destinations_in : InterleavedValue → ℕ
destinations_in v = dest_count v.heap.config.shape v.collection.generation

-- the event came, in the same collection
pub record Goes (event : Event) (old new : InterleavedValue) : Type 0 where
  pub heap : new.heap ≡ old.heap
  pub collection : new.collection ≡ old.collection
  pub workers : new.workers ≡ old.workers
  pub step : Step (setting_in old) (system_of old) event (system_of new)

-- nothing came, and the system is as it was
pub record Stays (old new : InterleavedValue) : Type 0 where
  pub heap : new.heap ≡ old.heap
  pub collection : new.collection ≡ old.collection
  pub workers : new.workers ≡ old.workers
  pub system : system_of new ≡ system_of old

-- worker t isn't idle, its current slot's object has no copy, and a copy of it wants a block
pub record WantsDraw (v : InterleavedValue) (t : ℕ) : Type 0 where
  pub worker : Worker
  pub at : IsAwake (system_of v) t worker
  pub wanted : draw_wanted (setting_in v) worker (cell_of (system_of v) (cell_wanted (setting_in v) worker)) ≡ true
