-- What holds of a collection by several workers between its events.
use Rattle.std.specs.Prelude.{◌≡◌, ℕ, ◌<◌, ◌≤◌, false, List, [], length, map, Some, slice_get}
use Rattle.std.specs.Ordering.{nat_cmp}
use Rattle.std.specs.FinMap.{find}
use Rattle.model.specs.Destination.{dest_count}
use Rattle.layout.specs.Place.{IsLargeAt}
use Rattle.block_pool.specs.BlockValue.{BlockValue}
use Rattle.block_pool.specs.ClaimsValue.{ClaimsValue, SeatValue, IsSeatOf}
use Rattle.forwarding.specs.Plain.{PlainPassValue, IsFit, place_held}
use Rattle.forwarding.specs.Plain.{PlainValue as PlainCellsValue}
use Rattle.pending_queues.specs.PlainValue.{PlainLane}
use Rattle.pending_queues.specs.PlainValue.{PlainValue as PlainQueuesValue}
use Rattle.steps.specs.HeapValue.{HeapValue}
use Rattle.steps.specs.CollectionValue.{CollectionValue, target_of_slot, young_names}
use Rattle.scavenge.specs.Handed.{CopiesKeyValue}
use Rattle.workers.specs.System.{opening_worker, idle_count}
use Rattle.workers.specs.Worker.{Worker}
use Rattle.workers.specs.WorkerRun.{WorkerRun, History}
use Rattle.workers.specs.Joined.{Each}
use Rattle.workers.specs.Ready.{IsHanded}
use Rattle.workers.specs.Finish.{IsReached}
use Rattle.scavenge.specs.Slots.{seen, cell_of}
use Rattle.heap.specs.Found.{HasNumber}
use Rattle.scavenge.specs.ReadyToCollect.{IsReadyToCollect}
use Rattle.machine.specs.InterleavedValue.{InterleavedValue, MemberValue, forwarded_in, setting_for, setting_in, destinations_in, targets_in, system_of}

-- the cells hold what was won: that of a large object a claim, any other the place of the copy
pub record AreForwarded (heap : HeapValue) (c : CollectionValue) (cells : PlainCellsValue) (pass : PlainPassValue) : Type 0 where
  pub fits : IsFit cells pass
  pub passes : cells.passes ≡ 1
  pub count : length cells.held ≡ c.cells
  pub shown : (name number : ℕ) → HasNumber heap c name number → cell_of (seen heap c) (Some name) (place_held cells.held number) ≡ find nat_cmp name (forwarded_in heap c pass)

-- blocks are drawn from the free ones
pub record AreDrawn (heap : HeapValue) (claims : ClaimsValue) (draws : SeatValue) : Type 0 where
  pub free : claims.source.free ≡ heap.free
  pub seats : claims.source.seats ≡ 1
  pub seat : IsSeatOf claims.source draws

-- the queue of worker u is of blocks of copies, each with its label
pub record IsLane (u : ℕ) (lane : PlainLane) : Type 0 where
  pub taken : length lane.takers ≤ length lane.sent
  pub labels : (position : ℕ) (block : BlockValue) → slice_get lane.sent position ≡ Some block → block.sent ≡ Some (u, position)
  pub noted : (position : ℕ) (block : BlockValue) → slice_get lane.sent position ≡ Some block → length block.origins ≡ length block.objects

-- there is a queue for each of so many workers
pub record AreQueued (heap : HeapValue) (c : CollectionValue) (n : ℕ) (queues : PlainQueuesValue CopiesKeyValue) : Type 0 where
  pub key : queues.key ≡ record { heap = heap; generation = c.generation }
  pub count : length queues.lanes ≡ n
  pub each : (u : ℕ) (lane : PlainLane) → slice_get queues.lanes u ≡ Some lane → IsLane u lane

-- worker t of n begins so
abbrev pub begins : HeapValue → CollectionValue → ℕ → ℕ → Worker
begins heap c n t = opening_worker (dest_count heap.config.shape c.generation) n (map target_of_slot c.slots) t

-- what worker t of n did so far
pub record HasWorked (heap : HeapValue) (c : CollectionValue) (n t : ℕ) (worker : Worker) : Type 0 where
  pub history : History
  pub run : WorkerRun (setting_for heap c n) (begins heap c n t) worker history
  pub taken : Each (IsHanded heap.graph c.generation heap.config.shape heap.config.block_words n) history.taken

-- worker t of n
pub record IsMember (heap : HeapValue) (c : CollectionValue) (n t : ℕ) (m : MemberValue) : Type 0 where
  pub seat : m.seat ≡ t
  pub config : m.workspace.config ≡ heap.config
  pub names : m.workspace.names ≡ young_names heap.graph c.generation
  pub claim : IsLargeAt m.workspace.claim t
  pub worked : HasWorked heap c n t m.workspace.worker

-- worker t has that export of worker u in its taken list
pub record HasTaken (members : List MemberValue) (t u position : ℕ) : Type 0 where
  pub member : MemberValue
  pub there : slice_get members t ≡ Some member
  pub place : ℕ
  pub took : slice_get member.taken place ≡ Some (u, position)

-- what the queue of worker u says was taken, is in the taken list of its taker
abbrev pub AreTakenBy : List MemberValue → ℕ → PlainLane → Type 0
AreTakenBy members u lane = (position t : ℕ) → slice_get lane.takers position ≡ Some t → HasTaken members t u position

-- some run from the first state comes to this one
abbrev pub HasReached : InterleavedValue → Type 0
HasReached v = IsReached (setting_in v) (destinations_in v) v.workers (targets_in v) v.heap.free (system_of v)

pub record IsInterleaved (v : InterleavedValue) : Type 0 where
  pub ready : IsReadyToCollect v.heap v.collection
  pub some : 0 < v.workers
  pub most : v.workers ≤ 16
  pub count : length v.members ≡ v.workers
  pub idlers : v.idlers ≡ idle_count (system_of v)
  pub cells : AreForwarded v.heap v.collection v.cells v.pass
  pub draws : AreDrawn v.heap v.claims v.draws
  pub queue : AreQueued v.heap v.collection v.workers v.queues
  pub each : (t : ℕ) (m : MemberValue) → slice_get v.members t ≡ Some m → IsMember v.heap v.collection v.workers t m
  pub reached : HasReached v
  pub takers : (u : ℕ) (lane : PlainLane) → slice_get v.queues.lanes u ≡ Some lane → AreTakenBy v.members u lane

-- worker t of n before its first event
pub record IsFirst (heap : HeapValue) (c : CollectionValue) (n t : ℕ) (m : MemberValue) : Type 0 where
  pub seat : m.seat ≡ t
  pub config : m.workspace.config ≡ heap.config
  pub names : m.workspace.names ≡ young_names heap.graph c.generation
  pub claim : IsLargeAt m.workspace.claim t
  pub worker : m.workspace.worker ≡ begins heap c n t
  pub taken : m.taken ≡ []
  pub awake : m.idle ≡ false
  pub going : m.ended ≡ false

-- each of n workers before its first event
pub record AreFirst (heap : HeapValue) (c : CollectionValue) (n : ℕ) (members : List MemberValue) : Type 0 where
  pub count : length members ≡ n
  pub each : (t : ℕ) (m : MemberValue) → slice_get members t ≡ Some m → IsFirst heap c n t m
