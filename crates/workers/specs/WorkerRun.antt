-- What one worker did, with the answers that the shared objects gave it. A run of the system gives one for each worker, and so does a thread.
use Rattle.std.specs.Prelude.{◌≡◌, ◌≢◌, ℕ, true, List, [], ◌∷◌, ◌++◌, Option, Some, None, IsSome, if◌then◌else◌}
use Rattle.workers.specs.Block.{Block, has_unscanned}
use Rattle.workers.specs.Setting.{Setting}
use Rattle.workers.specs.Worker.{Worker, Proposal, Copied, Claimed}
use Rattle.workers.specs.WorkerSteps.{current_slot, collected_target, draw_at, after_look, after_race, after_scan, after_aside, after_take, after_own, after_own_large, CanLook, CanScan, IsFree, has_open_work}

pub data Act : Type 0 where
  Looked : (cell : Option ℕ) (number : ℕ) → Act
  Raced : (lost : Option ℕ) → Act
  Scanned : Act
  Exported : Act
  Took : (block : Block) → Act
  Owned : (destination : ℕ) → Act
  OwnedLarge : Act

abbrev pub after : Setting → Worker → Act → Worker
after setting w (Looked cell number) = after_look setting w cell number
after setting w (Raced lost) = after_race w lost
after setting w Scanned = after_scan w
after setting w Exported = after_aside w
after setting w (Took block) = after_take w block
after setting w (Owned d) = after_own w d
after setting w OwnedLarge = after_own_large w

abbrev pub CanAct : Setting → Worker → Act → Type 0
CanAct setting w (Looked cell number) = CanLook setting w
CanAct setting w (Raced lost) = IsSome w.proposal
CanAct setting w Scanned = CanScan setting w
CanAct setting w Exported = w.aside ≢ []
CanAct setting w (Took block) = IsFree w × (has_unscanned block ≡ true)
CanAct setting w (Owned d) = IsFree w × (has_open_work w d ≡ true)
CanAct setting w OwnedLarge = IsFree w × (w.large ≢ [])

abbrev pub proposed_name : Proposal → ℕ
proposed_name (Copied copy d) = copy.name
proposed_name (Claimed name) = name

abbrev pub proposed_place : Proposal → ℕ
proposed_place (Copied copy d) = copy.place
proposed_place (Claimed name) = name

-- what the shared objects gave a worker and got from it
pub record History : Type 0 where
  pub known : List (ℕ × ℕ)  -- (name, place), as cells showed or as it won them, latest first
  pub drawn : List ℕ  -- numbers of blocks
  pub exported : List Block  -- as they were when they left, in order
  pub taken : List Block  -- as they came, in order

abbrev pub no_history : History
no_history = record { known = []; drawn = []; exported = []; taken = [] }

abbrev pub known_by_look : Option ℕ → Option ℕ → List (ℕ × ℕ) → List (ℕ × ℕ)
known_by_look None cell known = known
known_by_look (Some name) None known = known
known_by_look (Some name) (Some place) known = (name, place) ∷ known

abbrev pub noted_look : Setting → Worker → Option ℕ → ℕ → Option ℕ → History → History
noted_look setting w cell number wanted h =
    record h { known = known_by_look wanted cell h.known; drawn = if draw_at setting w wanted cell then h.drawn ++ number ∷ [] else h.drawn }

abbrev pub known_by_race : Option Proposal → Option ℕ → List (ℕ × ℕ) → List (ℕ × ℕ)
known_by_race None lost known = known
known_by_race (Some p) (Some place) known = (proposed_name p, place) ∷ known
known_by_race (Some p) None known = (proposed_name p, proposed_place p) ∷ known

abbrev pub first_alone : List Block → List Block
first_alone [] = []
first_alone (block ∷ blocks) = block ∷ []

abbrev pub noted : Setting → Worker → Act → History → History
noted setting w (Looked cell number) h = noted_look setting w cell number (collected_target setting (current_slot setting w)) h
noted setting w (Raced lost) h = record h { known = known_by_race w.proposal lost h.known }
noted setting w Scanned h = h
noted setting w Exported h = record h { exported = h.exported ++ first_alone w.aside }
noted setting w (Took block) h = record h { taken = h.taken ++ block ∷ [] }
noted setting w (Owned d) h = h
noted setting w OwnedLarge h = h

-- the worker that began so may be in this state, with this history
pub data WorkerRun (setting : Setting) (start : Worker) : Worker → History → Type 0 where
  stay : WorkerRun setting start start no_history
  go : {w : Worker} {h : History} (act : Act) → WorkerRun setting start w h → CanAct setting w act → WorkerRun setting start (after setting w act) (noted setting w act h)
