-- What holds of a collection by one worker between its events.
use Rattle.std.specs.Prelude.{◌≡◌, ℕ, ◌≤◌, length, Some, slice_get}
use Rattle.std.specs.Ordering.{nat_cmp}
use Rattle.std.specs.FinMap.{find}
use Rattle.layout.specs.Place.{IsLargeAt}
use Rattle.block_pool.specs.BlockValue.{BlockValue}
use Rattle.block_pool.specs.ClaimsValue.{IsSeatOf}
use Rattle.forwarding.specs.Plain.{IsFit, place_held}
use Rattle.steps.specs.CollectionValue.{young_names}
use Rattle.workers.specs.System.{opening_worker}
use Rattle.workers.specs.WorkerRun.{WorkerRun, History}
use Rattle.workers.specs.Joined.{Each}
use Rattle.workers.specs.Ready.{IsHanded}
use Rattle.scavenge.specs.Slots.{cell_of}
use Rattle.heap.specs.Found.{HasNumber}
use Rattle.one_worker.specs.SerialValue.{SerialValue, lane_of, setting_in, targets_in, destinations_in}
use Rattle.scavenge.specs.ReadyToCollect.{IsReadyToCollect}

-- the cells hold what was won: that of a large object the worker's claim, any other the place of the copy
pub record AreForwarded (v : SerialValue) : Type 0 where
  pub fits : IsFit v.cells v.pass
  pub passes : v.cells.passes ≡ 1
  pub count : length v.cells.held ≡ v.collection.cells
  pub shown : (name number : ℕ) → HasNumber v.heap v.collection name number → cell_of (setting_in v) (Some name) (place_held v.cells.held number) ≡ find nat_cmp name v.workspace.worker.won

-- it draws from the free blocks
pub record AreDrawn (v : SerialValue) : Type 0 where
  pub free : v.claims.source.free ≡ v.heap.free
  pub seats : v.claims.source.seats ≡ 1
  pub seat : IsSeatOf v.claims.source v.draws

-- there is one queue, of blocks of copies, each with its label
pub record IsQueued (v : SerialValue) : Type 0 where
  pub key : v.queues.key ≡ record { heap = v.heap; generation = v.collection.generation }
  pub lanes : length v.queues.lanes ≡ 1
  pub seat : v.seat ≡ 0
  pub taken : length (lane_of v).takers ≤ length (lane_of v).sent
  pub labels : (position : ℕ) (block : BlockValue) → slice_get (lane_of v).sent position ≡ Some block → block.sent ≡ Some (0, position)
  pub noted : (position : ℕ) (block : BlockValue) → slice_get (lane_of v).sent position ≡ Some block → length block.origins ≡ length block.objects

-- what the worker did so far
pub record HasWorked (v : SerialValue) : Type 0 where
  pub history : History
  pub run : WorkerRun (setting_in v) (opening_worker (destinations_in v) 1 (targets_in v) 0) v.workspace.worker history
  pub taken : Each (IsHanded v.heap.graph v.collection.generation v.heap.config.shape v.heap.config.block_words 1) history.taken

pub record IsSerial (v : SerialValue) : Type 0 where
  pub ready : IsReadyToCollect v.heap v.collection
  pub config : v.workspace.config ≡ v.heap.config
  pub names : v.workspace.names ≡ young_names v.heap.graph v.collection.generation
  pub claim : IsLargeAt v.workspace.claim 0
  pub cells : AreForwarded v
  pub draws : AreDrawn v
  pub queue : IsQueued v
  pub worked : HasWorked v
