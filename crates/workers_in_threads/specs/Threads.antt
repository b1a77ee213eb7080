-- What workers on threads of their own bring together, and what cells, draws and queues say of it.
use Rattle.std.specs.Prelude.{◌≡◌, ℕ, ◌+◌, ◌<◌, List, [], ◌∷◌, All, map, length, Option, None, nat_eq, slice_index_or, IsTrue}
use Rattle.std.specs.List.{Contains, IsDistinct}
use Rattle.std.specs.Ordering.{nat_cmp}
use Rattle.std.specs.FinMap.{find}
use Rattle.model.specs.Reached.{has}
use Rattle.layout.specs.declared.place.Place.{Place}
use Rattle.block_pool.specs.ClaimsValue.{SeatValue, all_drawn}
use Rattle.forwarding.specs.Settled.{IsSettled, all_pairs}
use Rattle.pending_queues.specs.declared.exports.deliveries.Delivery.{Delivery}
use Rattle.steps.specs.HeapValue.{HeapValue}
use Rattle.steps.specs.CollectionValue.{CollectionValue, young_names}
use Rattle.pending_queues.specs.PendingValue.{SeatValue as QueueSeatValue}
use Rattle.pending_queues.specs.Delivered.{AreDelivered}
use Rattle.scavenge.specs.Handed.{CopiesKeyValue}
use Rattle.workers.specs.WorkerSteps.{IsOutOfWork}
use Rattle.workers.specs.Total.{total, times}
use Rattle.workers.specs.Joined.{Each, Part}
use Rattle.workers.specs.Kept.{Brought, Kept}
use Rattle.workers.specs.Ordered.{Ordered, AreHandedOn, GoOn, ScanOwn}
use Rattle.scavenge.specs.Shown.{WorkspaceValue}
use Rattle.scavenge.specs.ReadyToCollect.{IsReadyToCollect}
use Rattle.workers_in_threads.specs.Queued.{IsQueued}
use Rattle.workers_in_threads.specs.SharingValue.{setting_for, forwarded_in}
use Rattle.workers_in_threads.specs.IsSharing.{HasWorked}

-- what one worker brings: its pass, its draws, its seat at the queues and its own part
pub record ThreadValue (P A : Type 0) : Type 0 where
  pub pass : P
  pub draws : SeatValue
  pub seat : QueueSeatValue A CopiesKeyValue
  pub workspace : WorkspaceValue

module _ {P A : Type 0} (known : P → ℕ → Option Place) (won : P → List (ℕ × Place)) where
  -- it is worker t of n
  pub record IsThread (heap : HeapValue) (c : CollectionValue) (n t : ℕ) (r : ThreadValue P A) : Type 0 where
    pub index : r.seat.index ≡ t
    pub config : r.workspace.config ≡ heap.config
    pub names : r.workspace.names ≡ young_names heap.graph c.generation
    pub queued : IsQueued r.seat
    pub worked : HasWorked heap c n t (known r.pass) (won r.pass) r.draws r.seat r.workspace.worker

  -- they are workers t, t + 1, .. of n
  abbrev pub AreThreads : HeapValue → CollectionValue → ℕ → ℕ → List (ThreadValue P A) → Type 0
  AreThreads heap c n t [] = Unit {0}
  AreThreads heap c n t (r ∷ rs) = IsThread heap c n t r × AreThreads heap c n (t + 1) rs

-- nothing of its own is left to it, and each of its exports was taken
pub record HasEnded {P A : Type 0} (r : ThreadValue P A) : Type 0 where
  pub out : IsOutOfWork r.workspace.worker
  pub cleared : r.seat.cleared ≡ length r.seat.sent

abbrev pub passes_of : {P A : Type 0} → List (ThreadValue P A) → List P
passes_of rs = map (λ r. r.pass) rs

abbrev pub draws_of : {P A : Type 0} → List (ThreadValue P A) → List SeatValue
draws_of rs = map (λ r. r.draws) rs

abbrev pub seats_of : {P A : Type 0} → List (ThreadValue P A) → List (QueueSeatValue A CopiesKeyValue)
seats_of rs = map (λ r. r.seat) rs

-- all n workers of a collection ended, the cells were settled, and draws and queues closed
pub record Gathered (P A : Type 0) (known : P → ℕ → Option Place) (won : P → List (ℕ × Place)) : Type 0 where
  pub heap : HeapValue
  pub collection : CollectionValue
  pub workers : ℕ
  pub threads : List (ThreadValue P A)
  pub places : List (Option Place)
  pub lists : List (List Delivery)
  pub ready : IsReadyToCollect heap collection
  pub some : 0 < workers
  pub count : length threads ≡ workers
  pub each : AreThreads known won heap collection workers 0 threads
  pub ended : Each HasEnded threads
  pub drawn_once : IsDistinct nat_eq (all_drawn (draws_of threads))
  pub drawn_free : All (Contains heap.free) (all_drawn (draws_of threads))
  pub settled : IsSettled known won (passes_of threads) collection.cells (λ name. slice_index_or places name None)
  pub delivered : AreDelivered (seats_of threads) lists

-- where each name was placed
abbrev pub placed_in : {P A : Type 0} {known : P → ℕ → Option Place} {won : P → List (ℕ × Place)} → Gathered P A known won → ℕ → Option ℕ
placed_in {won = won} all name = find nat_cmp name (forwarded_in all.heap all.collection (all_pairs won (passes_of all.threads)))

-- what each did is its part
pub record KeptBy {P A : Type 0} {known : P → ℕ → Option Place} {won : P → List (ℕ × Place)} (all : Gathered P A known won) : Type 0 where
  pub parts : List Part
  pub finals : map (λ (p : Part). p.final) parts ≡ map (λ (r : ThreadValue P A). r.workspace.worker) all.threads
  pub brought : Brought all.heap.graph all.collection.generation all.heap.config.shape all.heap.config.block_words all.workers (placed_in all) parts
  pub drawn_free : (number : ℕ) → 0 < total (λ (p : Part). times number p.history.drawn) parts → IsTrue (has all.heap.free number)
  pub ordered : Ordered (setting_for all.heap all.collection all.workers) parts × (AreHandedOn parts × (GoOn parts × ScanOwn parts))
  pub kept : Kept all.heap.graph all.collection.generation all.heap.config.shape all.heap.config.block_words all.workers (placed_in all) parts
