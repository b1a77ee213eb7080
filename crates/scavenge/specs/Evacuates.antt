-- What a worker does that looks and races at once.
use Rattle.std.specs.Prelude.{◌≡◌, ℕ, true, List, Option, Some, None, IsSome, ◌⊎◌}
use Rattle.layout.specs.declared.place.Place.{Place}
use Rattle.block_pool.specs.ClaimsValue.{SeatValue}
use Rattle.forwarding.specs.declared.cells.outcome.Outcome.{Outcome}
use Rattle.heap.specs.HeapValue.{HeapValue}
use Rattle.heap.specs.CollectionValue.{CollectionValue}
use Rattle.workers.specs.Block.{Block}
use Rattle.workers.specs.Setting.{Setting, copy_into, is_large_name}
use Rattle.workers.specs.Worker.{Worker, Copied, allocation_at}
use Rattle.workers.specs.WorkerSteps.{current_slot, draws_for}
use Rattle.scavenge.specs.Shown.{WorkspaceValue}
use Rattle.scavenge.specs.Slots.{seen, objects_of, Proposes, Looks}
use Rattle.heap.specs.Found.{HasNumber}
use Rattle.scavenge.specs.Told.{Races}

-- a copy of the object can't go where the last copies stand: it is large, or a block is wanted for it
abbrev pub WantsMore : Setting → Worker → ℕ → Type 0
WantsMore setting w name = (is_large_name setting name ≡ true) ⊎ (draws_for setting w name ≡ true)

-- the current slot leads to an object of which the cells show no copy
pub record LeadsToUncopied (heap : HeapValue) (c : CollectionValue) (gives : ℕ → Option Place → Type 0) (w : Worker) : Type 0 where
  pub name : ℕ
  pub number : ℕ
  pub slot : current_slot (seen heap c) w ≡ Some (Some name)
  pub of : HasNumber heap c name number
  pub given : gives number None

-- and its copy can't go there
pub record IsUncopied (heap : HeapValue) (c : CollectionValue) (gives : ℕ → Option Place → Type 0) (w : Worker) : Type 0 where
  pub leads : LeadsToUncopied heap c gives w
  pub wants : WantsMore (objects_of heap) w leads.name

-- a copy of the object with this name was proposed, at the end of the block that stood there: none was drawn
pub record ProposesThere (setting : Setting) (name : ℕ) (old new : WorkspaceValue) : Type 0 where
  pub destination : ℕ
  pub block : Block
  pub there : allocation_at old.worker destination ≡ Some block
  pub worker : new ≡ record old { worker = record old.worker { proposal = Some (Copied (copy_into setting block name) destination) } }
  pub proposes : (seat : SeatValue) → Proposes setting name seat seat old new

-- a worker looked, drew no block, and raced for what it proposed. Between the two it knew what the cells had told it
pub record LooksAndRaces {Pass : Type 0} (heap : HeapValue) (c : CollectionValue) (fits : Pass → Type 0) (known : Pass → ℕ → Option Place) (won : Pass → List (ℕ × Place))
    (look_gives : ℕ → Option Place → Type 0) (race_gives : ℕ → Place → Outcome → Type 0) (pass pass' : Pass) (old new : WorkspaceValue) : Type 0 where
  pub between : Pass
  pub proposing : WorkspaceValue
  pub fit : fits between
  pub still : won between ≡ won pass
  pub looks : (seat : SeatValue) → Looks heap c look_gives (known pass) (known between) seat seat old proposing
  pub proposed : IsSome proposing.worker.proposal
  pub races : Races heap c race_gives (known between) (known pass') (won between) (won pass') proposing new
