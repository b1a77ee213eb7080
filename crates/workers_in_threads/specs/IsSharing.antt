-- What holds of one worker among several between its steps.
use Rattle.std.specs.Prelude.{◌≡◌, ℕ, ◌<◌, ◌≤◌, List, All, map, length, Option, Some}
use Rattle.layout.specs.declared.place.Place.{Place}
use Rattle.block_pool.specs.ClaimsValue.{SeatValue, IsSeatOf}
use Rattle.steps.specs.HeapValue.{HeapValue}
use Rattle.steps.specs.CollectionValue.{CollectionValue, young_names}
use Rattle.pending_queues.specs.PendingValue.{IsSeatOf as IsQueueSeat}
use Rattle.pending_queues.specs.PendingValue.{SeatValue as QueueSeatValue}
use Rattle.scavenge.specs.Handed.{CopiesKeyValue}
use Rattle.workers.specs.Worker.{Worker}
use Rattle.workers.specs.WorkerRun.{WorkerRun, History}
use Rattle.workers.specs.Joined.{Each}
use Rattle.workers.specs.Ordered.{RunsInTurn}
use Rattle.workers.specs.Ready.{IsHanded}
use Rattle.scavenge.specs.Named.{named}
use Rattle.heap.specs.Found.{HasNumber}
use Rattle.scavenge.specs.ReadyToCollect.{IsReadyToCollect}
use Rattle.workers_in_threads.specs.Queued.{IsQueued}
use Rattle.workers_in_threads.specs.SharingValue.{SharingValue, setting_for, begins, stands_at, forwarded_in, labelled_from}

-- the pass knows of that name, by its number, where it stands
pub record KnowsPair (heap : HeapValue) (c : CollectionValue) (known : ℕ → Option Place) (e : ℕ × ℕ) : Type 0 where
  pub number : ℕ
  pub of : HasNumber heap c e.0 number
  pub place : Place
  pub shown : known number ≡ Some place
  pub stands : e.1 ≡ stands_at heap c e.0 place

-- what worker t of n did so far; its pass, its draws and its seat at the queues know just that
pub record HasWorked {A : Type 0} (heap : HeapValue) (c : CollectionValue) (n t : ℕ) (known : ℕ → Option Place) (won : List (ℕ × Place)) (draws : SeatValue) (seat : QueueSeatValue A CopiesKeyValue) (worker : Worker) : Type 0 where
  pub history : History
  pub run : WorkerRun (setting_for heap c n) (begins heap c n t) worker history
  pub turns : RunsInTurn (setting_for heap c n) t run
  pub handed : Each (IsHanded heap.graph c.generation heap.config.shape heap.config.block_words n) history.taken
  pub knows : Each (KnowsPair heap c known) history.known
  pub won_are : forwarded_in heap c won ≡ worker.won
  pub numbers : All (λ e. e.0 < c.cells) won
  pub drawn : draws.drawn ≡ history.drawn
  pub exported : map (named heap.config.shape) seat.sent ≡ labelled_from t 0 history.exported
  pub taken : map (named heap.config.shape) seat.taken ≡ history.taken

module _ {C P A : Type 0} where
  pub record IsSharing (fits : C → P → Type 0) (limit : C → ℕ) (known : P → ℕ → Option Place) (won : P → List (ℕ × Place)) (v : SharingValue C P A) : Type 0 where
    pub ready : IsReadyToCollect v.heap v.collection
    pub member : v.seat.index < v.workers
    pub config : v.workspace.config ≡ v.heap.config
    pub names : v.workspace.names ≡ young_names v.heap.graph v.collection.generation
    pub fits_cells : fits v.cells v.pass
    pub cells : v.collection.cells ≤ limit v.cells
    pub free : v.claims.source.free ≡ v.heap.free
    pub draws : IsSeatOf v.claims.source v.draws
    pub seat : IsQueueSeat v.queues v.seat
    pub lanes : length v.queues.lanes ≡ v.workers
    pub key : v.queues.key ≡ record { heap = v.heap; generation = v.collection.generation }
    pub queued : IsQueued v.seat
    pub worked : HasWorked v.heap v.collection v.workers v.seat.index (known v.pass) (won v.pass) v.draws v.seat v.workspace.worker
