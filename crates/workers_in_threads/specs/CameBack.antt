-- What workers on threads of their own brought back, list by list, and once their cells were settled.
use Rattle.std.specs.Prelude.{◌≡◌, ◌≢◌, ℕ, ◌<◌, ◌≤◌, List, Option, Some, None, Result, Err, IfOk, length, map, slice_get, slice_index_or}
use Rattle.layout.specs.declared.place.Place.{Place}
use Rattle.block_pool.specs.ClaimsValue.{ClaimsValue, SeatValue}
use Rattle.forwarding.specs.Settled.{IsSettled, all_pairs, wins_of}
use Rattle.forwarding.specs.declared.cells.forwards.SettleError.{SettleError}
use Rattle.forwarding.specs.declared.cells.forwards.SettleError.TheVariants.{NoMemory}
use Rattle.pending_queues.specs.PendingValue.{Source}
use Rattle.pending_queues.specs.PendingValue.{SeatValue as QueueSeatValue}
use Rattle.steps.specs.HeapValue.{HeapValue}
use Rattle.steps.specs.CollectionValue.{CollectionValue}
use Rattle.workers.specs.Joined.{Each}
use Rattle.scavenge.specs.Handed.{CopiesKeyValue}
use Rattle.scavenge.specs.Shown.{WorkspaceValue}
use Rattle.scavenge.specs.ReadyToCollect.{IsReadyToCollect}
use Rattle.scavenge.specs.declared.looking.LookError.{LookError}
use Rattle.workers_in_threads.specs.declared.kit.Brought.{Brought}
use Rattle.workers_in_threads.specs.declared.sharing_worker.resting.Outcome.{Outcome}
use Rattle.workers_in_threads.specs.declared.sharing_worker.resting.Outcome.TheVariants.{Ended, Left, Refused}
use Rattle.workers_in_threads.specs.Kits.{AreBroughtBack}

-- it holds of one of them
pub record IsOneOf {X : Type 0} (F : X → Type 0) (xs : List X) : Type 0 where
  pub place : ℕ
  pub element : X
  pub there : slice_get xs place ≡ Some element
  pub is : F element

module _ {P A : Type 0} where
  -- it wasn't refused
  abbrev pub IsNotRefused : Brought P A → Type 0
  IsNotRefused r = (e : LookError) → r.outcome ≢ Refused e

  -- one of them was refused so, and none before it was refused
  pub record IsFirstRefusal (e : LookError) (brought : List (Brought P A)) : Type 0 where
    pub one : IsOneOf (λ (r : Brought P A). r.outcome ≡ Refused e) brought
    pub before : (i : ℕ) (r : Brought P A) → i < one.place → slice_get brought i ≡ Some r → IsNotRefused r

  -- one left early, and none was refused
  pub record IsLeftEarly (brought : List (Brought P A)) : Type 0 where
    pub one : IsOneOf (λ (r : Brought P A). r.outcome ≡ Left) brought
    pub none_refused : Each IsNotRefused brought

  -- the lists hold what each brought, in order, and all ended so
  pub record IsSeparated (brought : List (Brought P A)) (ending : Outcome) (passes : List P) (draws : List SeatValue) (seats : List (QueueSeatValue A CopiesKeyValue)) (workspaces : List WorkspaceValue) : Type 0 where
    pub passes_are : passes ≡ map (λ (r : Brought P A). r.pass) brought
    pub draws_are : draws ≡ map (λ (r : Brought P A). r.draws) brought
    pub seats_are : seats ≡ map (λ (r : Brought P A). r.seat) brought
    pub workspaces_are : workspaces ≡ map (λ (r : Brought P A). r.workspace) brought
    pub ended : ending ≡ Ended → Each (λ (r : Brought P A). r.outcome ≡ Ended) brought
    pub left : ending ≡ Left → IsLeftEarly brought
    pub refused : (e : LookError) → ending ≡ Refused e → IsFirstRefusal e brought

  -- n workers of a collection came back, each with what it did, and these are the lists of it
  pub record CameBack (is_pass : ℕ → P → Type 0) (known : P → ℕ → Option Place) (won : P → List (ℕ × Place)) (heap : HeapValue) (c : CollectionValue) (n : ℕ) (ending : Outcome) (passes : List P) (claims : ClaimsValue) (queues : Source A CopiesKeyValue) (draws : List SeatValue) (seats : List (QueueSeatValue A CopiesKeyValue)) (workspaces : List WorkspaceValue) : Type 0 where
    pub brought : List (Brought P A)
    pub count : length brought ≡ n
    pub ready : IsReadyToCollect heap c
    pub free : claims.source.free ≡ heap.free
    pub shares : claims.source.seats ≡ n
    pub lanes : length queues.lanes ≡ n
    pub each : AreBroughtBack is_pass known won heap c claims queues n brought
    pub lists : IsSeparated brought ending passes draws seats workspaces

  module _ {C : Type 0} (is_pass : C → ℕ → P → Type 0) (known : P → ℕ → Option Place) (won : P → List (ℕ × Place)) (heap : HeapValue) (c : CollectionValue) (n : ℕ) (ending : Outcome) (claims : ClaimsValue) (queues : Source A CopiesKeyValue) (draws : List SeatValue) (seats : List (QueueSeatValue A CopiesKeyValue)) (workspaces : List WorkspaceValue) where
    -- their cells were settled with their passes, or were not, to this
    pub record WereSettled (settled : Result (List (Option Place)) SettleError) : Type 0 where
      pub cells : C
      pub passes : List P
      pub back : CameBack (is_pass cells) known won heap c n ending passes claims queues draws seats workspaces
      pub places : IfOk settled (λ f. IsSettled known won passes c.cells (λ number. slice_index_or f number None))
      pub many : IfOk settled (λ f. length f ≡ c.cells)
      pub won_once : settled ≢ Err NoMemory → (number : ℕ) → wins_of number (all_pairs won passes) ≤ 1

    -- they were, and each name has its place
    pub record ArePlaced (places : List (Option Place)) : Type 0 where
      pub cells : C
      pub passes : List P
      pub back : CameBack (is_pass cells) known won heap c n ending passes claims queues draws seats workspaces
      pub settled : IsSettled known won passes c.cells (λ number. slice_index_or places number None)
      pub many : length places ≡ c.cells
