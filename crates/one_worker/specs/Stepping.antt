-- What one event changes, and what is so when none is left.
use Rattle.std.specs.Prelude.{◌≡◌, ◌⊎◌, ◌≤◌, ℕ, true, false, [], Some, None, IsSome}
use Rattle.steps.specs.HeapValue.{HeapValue}
use Rattle.steps.specs.CollectionValue.{CollectionValue}
use Rattle.workers.specs.Worker.{Nothing}
use Rattle.workers.specs.WorkerSteps.{IsOutOfWork, CanLook, CanScan, current_slot}
use Rattle.workers.specs.System.{Event, Look, opening}
use Rattle.workers.specs.Lawful.{next_alone}
use Rattle.workers.specs.Finish.{Stepped}
use Rattle.workers.specs.Measure.{measure, young_names_of}
use Rattle.scavenge.specs.Shown.{has_another}
use Rattle.one_worker.specs.SerialValue.{SerialValue, Goes, IsUncopied, WantsDraw, lane_of, setting_in, system_of, targets_in, destinations_in}
use Rattle.scavenge.specs.Waiting.{waiting_in}

-- the collection is one of this heap
pub record IsOf (heap : HeapValue) (c : CollectionValue) (v : SerialValue) : Type 0 where
  pub heap_is : heap ≡ v.heap
  pub collection_is : c ≡ v.collection

-- the event came that is the next of one worker by itself
pub record GoesOn (old new : SerialValue) : Type 0 where
  pub event : Event
  pub is_next : next_alone (setting_in old) (system_of old) ≡ Some event
  pub goes : Goes event old new

-- nothing is proposed, in hand or at hand
pub record HasNothingInHand (v : SerialValue) : Type 0 where
  pub no_proposal : v.workspace.worker.proposal ≡ None
  pub no_slot : current_slot (setting_in v) v.workspace.worker ≡ None
  pub no_hand : v.workspace.worker.hand ≡ Nothing

-- nothing is left to do
pub record IsDone (v : SerialValue) : Type 0 where
  pub out : IsOutOfWork v.workspace.worker
  pub queue : waiting_in (lane_of v) ≡ []

-- what comes next is a look, it can come and wants a block, and a draw found none
pub record IsFullForLook (old new : SerialValue) : Type 0 where
  pub is_next : next_alone (setting_in old) (system_of old) ≡ Some (Look 0)
  pub can : CanLook (setting_in old) old.workspace.worker
  pub wants : WantsDraw old
  pub out : new.draws.out ≡ true

-- the events so far, each the next one, from the first system
pub record HasStepped (v : SerialValue) : Type 0 where
  pub count : ℕ
  pub run : Stepped (setting_in v) (next_alone (setting_in v)) (opening (destinations_in v) 1 (targets_in v) v.heap.free) count (system_of v)

-- how much is left to do: each event makes it less
abbrev pub left_to_do : SerialValue → ℕ
left_to_do v = measure (setting_in v) (young_names_of v.heap.graph v.collection.generation) (system_of v)

-- there is no slot, and no block in hand has another object unscanned behind the first
pub record HasNoneBehind (v : SerialValue) : Type 0 where
  pub no_slot : current_slot (setting_in v) v.workspace.worker ≡ None
  pub no_other : has_another v.workspace.worker.hand ≡ false

-- the next event is left to `step`: something is proposed, the slot is left to a look, or there is no slot and nothing behind what is in hand
abbrev pub IsLeftToStep : SerialValue → Type 0
IsLeftToStep v = IsSome v.workspace.worker.proposal ⊎ (IsUncopied v ⊎ HasNoneBehind v)

-- the next event is a scan
abbrev pub ScansNext : SerialValue → Type 0
ScansNext v = CanScan (setting_in v) v.workspace.worker

-- the events came, each the next one, to one that is left to `step`, and then that one
pub record ScavengesAndSteps (old new : SerialValue) : Type 0 where
  pub between : SerialValue
  pub stepped : HasStepped between
  pub less : left_to_do between ≤ left_to_do old
  pub is_left : IsLeftToStep between
  pub goes : GoesOn between new
