-- What the workers of a collection bring back, and what the shared objects promise of it.
use Rattle.std.specs.Prelude.{◌≡◌, ℕ, ◌<◌, ◌≤◌, Bool, true, false, ◌&&◌, List, [], ◌∷◌, ◌++◌, length, Option, Some, None, slice_get, nat_eq}
use Rattle.workers.specs.Block.{Block, Copy}
use Rattle.workers.specs.Setting.{Setting, is_collected, destination_of}
use Rattle.workers.specs.Worker.{Worker, Nothing}
use Rattle.workers.specs.WorkerSteps.{IsOutOfWork}
use Rattle.workers.specs.WorkerRun.{WorkerRun, History}
use Rattle.workers.specs.Places.{IsPair}
use Rattle.workers.specs.Total.{total, one_if, times, wins_of, ones}

abbrev pub Each : {A : Type 0} → (A → Type 0) → List A → Type 0
Each P [] = Unit {0}
Each P (x ∷ xs) = P x × Each P xs

abbrev pub OnSome : {A : Type 0} → (A → Type 0) → Option A → Type 0
OnSome P None = Unit {0}
OnSome P (Some x) = P x

-- a worker that has start slots and nothing else
pub record IsOpening (w : Worker) : Type 0 where
  pub fields : w.fields ≡ 0
  pub no_proposal : w.proposal ≡ None
  pub no_hand : w.hand ≡ Nothing
  pub no_allocation : Each (λ b. b ≡ None) w.allocation
  pub no_aside : w.aside ≡ []
  pub no_done : w.done ≡ []
  pub no_large : w.large ≡ []
  pub no_large_done : w.large_done ≡ []
  pub no_won : w.won ≡ []
  pub no_scanned : w.scanned ≡ []

-- each destination has its place
abbrev pub Roomy : Setting → Worker → Type 0
Roomy setting w = (name : ℕ) → is_collected setting name ≡ true → destination_of setting name < length w.allocation

-- a worker's part of a collection
pub record Part : Type 0 where
  pub start : Worker
  pub final : Worker
  pub history : History

-- it ran until nothing was left to it
pub record HasRun (setting : Setting) (part : Part) : Type 0 where
  pub opening : IsOpening part.start
  pub room : Roomy setting part.start
  pub run : WorkerRun setting part.start part.final part.history
  pub out : IsOutOfWork part.final

-- the block that left worker u as its export i, under this label
pub record WasExported (parts : List Part) (block : Block) : Type 0 where
  pub u : ℕ
  pub i : ℕ
  pub part : Part
  pub exporter : slice_get parts u ≡ Some part
  pub sent : Block
  pub there : slice_get part.history.exported i ≡ Some sent
  pub same : block ≡ record sent { sent = Some (u, i) }

abbrev pub is_sent : ℕ → ℕ → Option (ℕ × ℕ) → Bool
is_sent u i None = false
is_sent u i (Some at) = nat_eq at.0 u && nat_eq at.1 i

-- how often export i of u is among them
abbrev pub deliveries : ℕ → ℕ → List Block → ℕ
deliveries u i blocks = total (λ (b : Block). one_if (is_sent u i b.sent)) blocks

-- the parts together, and where each name was placed
pub record Joined (setting : Setting) (f : ℕ → Option ℕ) (parts : List Part) : Type 0 where
  pub runs : Each (HasRun setting) parts
  pub known : Each (λ (p : Part). Each (IsPair f) p.history.known) parts
  pub won_once : (name : ℕ) → total (λ (p : Part). wins_of name p.final.won) parts ≡ ones (f name)
  pub drawn_once : (number : ℕ) → total (λ (p : Part). times number p.history.drawn) parts ≤ 1
  pub taken : Each (λ (p : Part). Each (WasExported parts) p.history.taken) parts
  pub taken_once : (u i : ℕ) (part : Part) → slice_get parts u ≡ Some part → i < length part.history.exported → total (λ (p : Part). deliveries u i p.history.taken) parts ≡ 1

-- the blocks that a worker leaves
abbrev pub somes : {A : Type 0} → List (Option A) → List A
somes [] = []
somes (None ∷ xs) = somes xs
somes (Some x ∷ xs) = x ∷ somes xs

abbrev pub blocks_of : Worker → List Block
blocks_of w = somes w.allocation ++ w.done

abbrev pub named_in : ℕ → Block → ℕ
named_in name block = total (λ (c : Copy). one_if (nat_eq c.name name)) block.copies
