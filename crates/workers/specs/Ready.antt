-- What a worker's next call may rely on, and a block as one worker hands it to another.
use Rattle.std.specs.Prelude.{◌≡◌, ℕ, ◌<◌, ◌≤◌, true, List, [], ◌∷◌, length, drop, Option, Some, None, IsSome, slice_get, option_and_then}
use Rattle.std.specs.Option.{option_map_or}
use Rattle.model.specs.Graph.{Graph}
use Rattle.model.specs.Live.{Live}
use Rattle.model.specs.Destination.{Shape}
use Rattle.workers.specs.Block.{Block, Copy, front_copy, has_unscanned}
use Rattle.workers.specs.Setting.{Setting, setting_of, old_field, old_pointers, is_collected}
use Rattle.workers.specs.Worker.{Worker, Proposal, Hand, Nothing, Open, Holding, HoldingLarge, allocation_at, current_object}
use Rattle.workers.specs.WorkerSteps.{CanLook, CanScan}
use Rattle.workers.specs.WorkerRun.{proposed_name}
use Rattle.workers.specs.Joined.{Each, Roomy}
use Rattle.workers.specs.Laid.{Laid}

-- what is in hand has a pointer with this number
abbrev pub HasField : ℕ → Option Block → Type 0
HasField i None = ⊥
HasField i (Some block) = (copy : Copy) × (front_copy block ≡ Some copy) × (i < length copy.pointers)

abbrev pub CanWrite : Worker → Hand → Type 0
CanWrite w Nothing = ⊥
CanWrite w (Open d) = HasField w.fields (allocation_at w d)
CanWrite w (Holding block) = HasField w.fields (Some block)
CanWrite w (HoldingLarge name) = Unit {0}

-- the worker has a slot that it may finish
abbrev pub CanFinish : Worker → List ℕ → Type 0
CanFinish w [] = CanWrite w w.hand
CanFinish w (target ∷ targets) = Unit {0}

-- what is in hand has something unscanned
abbrev pub IsUnscanned : Option Block → Type 0
IsUnscanned None = ⊥
IsUnscanned (Some block) = has_unscanned block ≡ true

abbrev pub CanPass : Worker → Hand → Type 0
CanPass w Nothing = ⊥
CanPass w (Open d) = IsUnscanned (allocation_at w d)
CanPass w (Holding block) = IsUnscanned (Some block)
CanPass w (HoldingLarge name) = Unit {0}

-- the copy that is current
abbrev pub copy_in : Worker → Hand → Option Copy
copy_in w Nothing = None
copy_in w (Open d) = option_and_then front_copy (allocation_at w d)
copy_in w (Holding block) = front_copy block
copy_in w (HoldingLarge name) = None

-- pointer i of the copy holds what it held in the original
abbrev pub HoldsOld : Setting → ℕ → Option Copy → Type 0
HoldsOld setting i None = Unit {0}
HoldsOld setting i (Some copy) = slice_get copy.pointers i ≡ old_field setting copy.name i

-- the current slot of a copy is as it was in the original
abbrev pub IsUntouched : Setting → Worker → Type 0
IsUntouched setting w = HoldsOld setting w.fields (copy_in w w.hand)

-- each pointer of the copy holds what it held in the original
abbrev pub IsUnwritten : Setting → Copy → Type 0
IsUnwritten setting copy = copy.pointers ≡ old_pointers setting copy.name

-- a block as one worker hands it to another: copies of live objects, laid out as they were copied, those not yet scanned as in the original, and one of these at least
pub record IsHanded (graph : Graph) (g : ℕ) (shape : Shape) (block_words workers : ℕ) (block : Block) : Type 0 where
  pub live : Each (λ (c : Copy). Live graph g c.name) block.copies
  pub laid : Laid (setting_of graph g shape block_words workers) block
  pub rest : Each (IsUnwritten (setting_of graph g shape block_words workers)) (drop block.front block.copies)
  pub some : has_unscanned block ≡ true

-- how many pointers the current object has, where there is one
abbrev pub field_count : Setting → Worker → ℕ
field_count setting w = option_map_or (λ (c : ℕ × ℕ). length (old_pointers setting c.0)) (current_object w) 0

-- what a worker's next call may rely on
pub record IsReady (setting : Setting) (w : Worker) : Type 0 where
  pub look : CanLook setting w → CanFinish w w.starts
  pub race : IsSome w.proposal → CanFinish w w.starts
  pub scan : CanScan setting w → CanPass w w.hand
  pub untouched : IsUntouched setting w
  pub room : Roomy setting w
  pub young : (p : Proposal) → w.proposal ≡ Some p → is_collected setting (proposed_name p) ≡ true
  pub fields : w.fields ≤ field_count setting w
