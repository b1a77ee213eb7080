-- A collection by one worker, as its calls see it, and as a system of workers.
use Rattle.std.specs.Prelude.{◌≡◌, ℕ, zero, suc, true, false, List, [], ◌∷◌, ◌++◌, map, length, IsSome, refl, Some, None}
use Rattle.std.specs.Coded.{Coded, code_by, coded×, coded_ℕ}
use Rattle.model.specs.Destination.{dest_count}
use Rattle.block_pool.specs.ClaimsValue.{ClaimsValue, SeatValue, claims_code, seat_code}
use Rattle.steps.specs.HeapValue.{HeapValue, heap_code}
use Rattle.steps.specs.CollectionValue.{CollectionValue, target_of_slot}
use Rattle.steps.specs.CollectionCode.{collection_code}
use Rattle.forwarding.specs.Plain.{PlainPassValue}
use Rattle.forwarding.specs.Plain.{PlainValue as PlainCellsValue}
use Rattle.pending_queues.specs.PlainValue.{PlainLane, lane_at}
use Rattle.pending_queues.specs.PlainValue.{PlainValue as PlainQueuesValue}
use Rattle.scavenge.specs.Handed.{CopiesKeyValue}
use Rattle.workers.specs.Setting.{Setting, setting_of}
use Rattle.workers.specs.System.{System, Event, Look, Race, cell_of}
use Rattle.workers.specs.WorkerSteps.{current_slot, cell_wanted, draw_wanted}
use Rattle.workers.specs.Steps.{Step}
use Rattle.scavenge.specs.Named.{named}
use Rattle.scavenge.specs.Shown.{WorkspaceValue}
use Rattle.scavenge.specs.Evacuates.{WantsMore}
use Rattle.scavenge.specs.Codes.{cells_code, pass_code, queues_code, workspace_code}
use Rattle.scavenge.specs.Waiting.{waiting_in, left_of}

-- the heap and the collection of it; the cells, and what the worker knows of them; what it draws blocks from, and what it drew; its queue; its own part
pub record SerialValue : Type 0 where
  pub heap : HeapValue
  pub collection : CollectionValue
  pub cells : PlainCellsValue
  pub pass : PlainPassValue
  pub claims : ClaimsValue
  pub draws : SeatValue
  pub queues : PlainQueuesValue CopiesKeyValue
  pub seat : ℕ
  pub workspace : WorkspaceValue

abbrev pub serial_code : Coded SerialValue
serial_code =
    code_by
    (HeapValue × (CollectionValue × (PlainCellsValue × (PlainPassValue × (ClaimsValue × (SeatValue × (PlainQueuesValue CopiesKeyValue × (ℕ × WorkspaceValue))))))))
    (coded× heap_code (coded× collection_code (coded× cells_code (coded× pass_code (coded× claims_code (coded× seat_code (coded× queues_code (coded× coded_ℕ workspace_code))))))))
    (λ s. (s.heap, (s.collection, (s.cells, (s.pass, (s.claims, (s.draws, (s.queues, (s.seat, s.workspace)))))))))
    (λ p. record { heap = p.0; collection = p.1.0; cells = p.1.1.0; pass = p.1.1.1.0; claims = p.1.1.1.1.0; draws = p.1.1.1.1.1.0; queues = p.1.1.1.1.1.1.0; seat = p.1.1.1.1.1.1.1.0; workspace = p.1.1.1.1.1.1.1.1 })
    (λ _. refl)

-- the worker's own queue
abbrev pub lane_of : SerialValue → PlainLane
lane_of v = lane_at v.queues 0

-- the first positions of the worker's own exports
abbrev pub positions_below : ℕ → List (ℕ × ℕ)
positions_below zero = []
positions_below (suc n) = positions_below n ++ (0, n) ∷ []

-- the system whose only worker is this one
abbrev pub system_of : SerialValue → System
system_of v =
    record {
      forwarded = v.workspace.worker.won;
      free = left_of v.claims.source.free v.draws.drawn;
      workers = v.workspace.worker ∷ [];
      queues = map (named v.workspace.config.shape) (waiting_in (lane_of v)) ∷ [];
      exported = map (named v.workspace.config.shape) (lane_of v).sent ∷ [];
      taken = positions_below (length (lane_of v).takers) ∷ [];
      idle = false ∷ [];
      ended = false ∷ [];
    }

-- what the worker sees of the heap
abbrev pub setting_in : SerialValue → Setting
setting_in v = setting_of v.heap.graph v.collection.generation v.heap.config.shape v.heap.config.block_words 1

abbrev pub targets_in : SerialValue → List ℕ
targets_in v = map target_of_slot v.collection.slots

abbrev pub destinations_in : SerialValue → ℕ
destinations_in v = dest_count v.heap.config.shape v.collection.generation

-- the event came, in the same collection
pub record Goes (event : Event) (old new : SerialValue) : Type 0 where
  pub heap : new.heap ≡ old.heap
  pub collection : new.collection ≡ old.collection
  pub step : Step (setting_in old) (system_of old) event (system_of new)

-- the current slot's object has no copy yet, and its copy can't go where the last ones stand
pub record IsUncopied (v : SerialValue) : Type 0 where
  pub name : ℕ
  pub slot : current_slot (setting_in v) v.workspace.worker ≡ Some (Some name)
  pub empty : cell_of (system_of v) (Some name) ≡ None
  pub wants : WantsMore (setting_in v) v.workspace.worker name

-- a look came, and at once the race for what it proposed
pub record LooksThenRaces (old new : SerialValue) : Type 0 where
  pub between : SerialValue
  pub looks : Goes (Look 0) old between
  pub proposed : IsSome between.workspace.worker.proposal
  pub races : Goes (Race 0) between new

-- nothing came, and the system is as it was
pub record Stays (old new : SerialValue) : Type 0 where
  pub heap : new.heap ≡ old.heap
  pub collection : new.collection ≡ old.collection
  pub system : system_of new ≡ system_of old

-- the current slot's object has no copy, and a copy of it wants a block
abbrev pub WantsDraw : SerialValue → Type 0
WantsDraw v = draw_wanted (setting_in v) v.workspace.worker (cell_of (system_of v) (cell_wanted (setting_in v) v.workspace.worker)) ≡ true
