-- What a worker takes to its thread, and what it brings back.
use Rattle.std.specs.Prelude.{◌≡◌, ◌≢◌, ℕ, ◌<◌, ◌≤◌, false, true, None, List, [], Option, IsSome, length}
use Rattle.layout.specs.declared.place.Place.{Place}
use Rattle.forwarding.specs.Passes.{AtEach}
use Rattle.block_pool.specs.ClaimsValue.{ClaimsValue, IsSeatOf, unused}
use Rattle.steps.specs.HeapValue.{HeapValue}
use Rattle.steps.specs.CollectionValue.{CollectionValue, young_names}
use Rattle.idle_count.specs.IdleValue.{IdleValue}
use Rattle.idle_count.specs.IdleValue.{IsSeatOf as IsIdleSeat}
use Rattle.idle_count.specs.VerdictValue.{VerdictValue}
use Rattle.pending_queues.specs.PendingValue.{Source, new_seat}
use Rattle.pending_queues.specs.PendingValue.{IsSeatOf as IsQueueSeat}
use Rattle.scavenge.specs.Handed.{CopiesKeyValue}
use Rattle.scavenge.specs.Shown.{WorkspaceValue}
use Rattle.workers.specs.WorkerSteps.{draw_wanted, CanLook}
use Rattle.scavenge.specs.declared.looking.LookError.TheVariants.{HeapFull}
use Rattle.scavenge.specs.ReadyToCollect.{IsReadyToCollect}
use Rattle.workers_in_threads.specs.declared.sharing_worker.resting.Outcome.TheVariants.{Ended, Left, Refused}
use Rattle.workers_in_threads.specs.SharingValue.{setting_for, begins}
use Rattle.workers_in_threads.specs.Threads.{ThreadValue, IsThread, HasEnded}
use Rattle.workers_in_threads.specs.declared.kit.Kit.{Kit}
use Rattle.workers_in_threads.specs.declared.kit.Brought.{Brought}

-- what n workers share: the collection may begin, draws give the heap's free blocks, and each worker has a lane of the queues, which hand
-- over copies of this collection
pub record IsShared {A : Type 0} (heap : HeapValue) (c : CollectionValue) (claims : ClaimsValue) (queues : Source A CopiesKeyValue) (n : ℕ) : Type 0 where
  pub ready : IsReadyToCollect heap c
  pub free : claims.source.free ≡ heap.free
  pub lanes : length queues.lanes ≡ n
  pub key : queues.key ≡ record { heap = heap; generation = c.generation }

-- a workspace of which nothing was done yet, that of worker t of n
pub record IsNewWorkspace (heap : HeapValue) (c : CollectionValue) (n t : ℕ) (w : WorkspaceValue) : Type 0 where
  pub config : w.config ≡ heap.config
  pub names : w.names ≡ young_names heap.graph c.generation
  pub worker : w.worker ≡ begins heap c n t

module _ {P A : Type 0} where
  -- worker t of n before it begins
  pub record IsKit (limit : ℕ) (is_pass : ℕ → P → Type 0) (won : P → List (ℕ × Place)) (heap : HeapValue) (c : CollectionValue) (claims : ClaimsValue) (queues : Source A CopiesKeyValue) (idle : IdleValue) (verdict : VerdictValue) (n t : ℕ) (k : Kit P A) : Type 0 where
    pub shared : IsShared heap c claims queues n
    pub member : t < n
    pub cells : c.cells ≤ limit
    pub pass : is_pass t k.pass
    pub won_none : won k.pass ≡ []
    pub draws : k.draws ≡ unused claims.source
    pub seat : k.seat ≡ new_seat queues t
    pub workspace : IsNewWorkspace heap c n t k.workspace
    pub rest : IsIdleSeat idle k.rest
    pub busy : k.rest.idle ≡ false
    pub voice : k.voice.name ≡ verdict.name
    pub silent : k.voice.won ≡ false

  abbrev pub AreKits : ℕ → (ℕ → P → Type 0) → (P → List (ℕ × Place)) → HeapValue → CollectionValue → ClaimsValue → Source A CopiesKeyValue → IdleValue → VerdictValue → ℕ → List (Kit P A) → Type 0
  AreKits limit is_pass won heap c claims queues idle verdict n ks = AtEach (IsKit limit is_pass won heap c claims queues idle verdict n) ks

  abbrev pub thread_of : Brought P A → ThreadValue P A
  thread_of r = record { pass = r.pass; draws = r.draws; seat = r.seat; workspace = r.workspace }

  -- what worker t of n brings back
  pub record IsBroughtBack (is_pass : ℕ → P → Type 0) (known : P → ℕ → Option Place) (won : P → List (ℕ × Place)) (heap : HeapValue) (c : CollectionValue) (claims : ClaimsValue) (queues : Source A CopiesKeyValue) (n t : ℕ) (r : Brought P A) : Type 0 where
    pub pass : is_pass t r.pass
    pub draws : IsSeatOf claims.source r.draws
    pub seat : IsQueueSeat queues r.seat
    pub thread : IsThread known won heap c n t (thread_of r)
    pub ended : r.outcome ≡ Ended → HasEnded (thread_of r)
    pub can : r.outcome ≡ Refused HeapFull → CanLook (setting_for heap c n) r.workspace.worker
    pub wanted : r.outcome ≡ Refused HeapFull → draw_wanted (setting_for heap c n) r.workspace.worker None ≡ true
    pub out : r.outcome ≡ Refused HeapFull → r.draws.out ≡ true
    -- it gave the verdict only where it was refused, and knew it unless it ended
    pub told : r.outcome ≢ Ended → IsSome r.voice.known
    pub quiet : r.outcome ≡ Ended → r.voice.won ≡ false
    pub left : r.outcome ≡ Left → r.voice.won ≡ false

  abbrev pub AreBroughtBack : (ℕ → P → Type 0) → (P → ℕ → Option Place) → (P → List (ℕ × Place)) → HeapValue → CollectionValue → ClaimsValue → Source A CopiesKeyValue → ℕ → List (Brought P A) → Type 0
  AreBroughtBack is_pass known won heap c claims queues n rs = AtEach (IsBroughtBack is_pass known won heap c claims queues n) rs
