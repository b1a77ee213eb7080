-- A worker that looks and races at once.
use Rattle.std.proofs.Common.{◌≡◌, ℕ, ◌≤◌, Option, None, List, refl}
use Rattle.std.specs.Prelude.{IsSome}
use Rattle.layout.specs.declared.place.Place.{Place}
use Rattle.forwarding.specs.declared.cells.outcome.Outcome.{Outcome}
use Rattle.block_pool.specs.ClaimsValue.{SeatValue}
use Rattle.workers.specs.WorkerSteps.{current_slot}
use Rattle.scavenge.specs.Shown.{WorkspaceValue}
use Rattle.scavenge.specs.Slots.{seen}
use Rattle.scavenge.specs.Slots as slots
use Rattle.scavenge.specs.Told.{StillKnows}
use Rattle.scavenge.specs.Evacuates.{LooksAndRaces}
use Rattle.scavenge.specs.declared.evacuating.Evacuated.{Evacuated}
use Rattle.scavenge.specs.declared.evacuating.Evacuated.TheVariants as evacuated
use Rattle.workers_in_threads.specs.SharingValue.{SharingValue, worker_of}
use Rattle.workers_in_threads.specs.IsSharing.{IsSharing}
use Rattle.workers_in_threads.proofs.Readiness.{can_look}
use Rattle.workers_in_threads.proofs.Looked.{turned, looks, still}
use Rattle.workers_in_threads.proofs.Raced.{raced}
use Rattle.scavenge.proofs.Unchanged.{some_there}

module _ {C P A : Type 0} (fits : C → P → Type 0) (limit : C → ℕ) (known : P → ℕ → Option Place) (won : P → List (ℕ × Place)) (v : SharingValue C P A) (k : IsSharing fits limit known won v) (none : v.workspace.worker.proposal ≡ None)
    (look_gives : ℕ → Option Place → Type 0) (race_gives : ℕ → Place → Outcome → Type 0) (cells : C) (pass : P) (new : WorkspaceValue) (is_fit : fits cells pass) (few : v.collection.cells ≤ limit cells) where
  abbrev home : C → P → Type 0
  home _ _ = Unit {0}

  abbrev After : Type 0
  After = IsSharing fits limit known won (turned fits limit known won home v cells pass v.draws new)

  abbrev pub HasSlot : Type 0
  HasSlot = IsSome (current_slot (seen v.heap v.collection) (worker_of v))

  abbrev pub LooksOnly : Type 0
  LooksOnly = (seat : SeatValue) → slots.Looks v.heap v.collection look_gives (known v.pass) (known pass) seat seat v.workspace new

  abbrev pub LooksToo : Type 0
  LooksToo = LooksAndRaces v.heap v.collection (fits v.cells) known won look_gives race_gives v.pass pass v.workspace new

  once : won pass ≡ won v.pass → HasSlot → LooksOnly → After
  once same slot l = (looks fits limit known won home v k cells pass v.draws is_fit few k.draws same look_gives (can_look v k none slot) new (l v.draws)).0

  twice : HasSlot → LooksToo → After
  twice slot r =
      let l = (looks fits limit known won home v k v.cells r.between v.draws r.fit k.cells k.draws r.still look_gives (can_look v k none slot) r.proposing (r.looks v.draws)).0 in
      let mid : SharingValue C P A = turned fits limit known won home v v.cells r.between v.draws r.proposing in
      let p = some_there mid.workspace.worker.proposal r.proposed in
      (raced fits limit known won mid l p.0 p.1 race_gives cells pass is_fit few new r.races).0

  pub evacuated_keeps : (r : Evacuated) → (r ≡ evacuated.Left → new ≡ v.workspace) → (r ≡ evacuated.NoSlot → new ≡ v.workspace) → ((r ≡ evacuated.Raced → ⊥) → won pass ≡ won v.pass) → ((r ≡ evacuated.Raced → ⊥) → StillKnows (known v.pass) (known pass))
      → (r ≡ evacuated.Looked → HasSlot) → (r ≡ evacuated.Raced → HasSlot) → (r ≡ evacuated.Looked → LooksOnly) → (r ≡ evacuated.Raced → LooksToo) → After
  evacuated_keeps evacuated.Left left no_slot same lasts looked_slot raced_slot looked raced = still fits limit known won home v k cells pass v.draws is_fit few k.draws (same (λ e. absurd (cc))) (lasts (λ e. absurd (cc))) new (left refl) refl
  evacuated_keeps evacuated.NoSlot left no_slot same lasts looked_slot raced_slot looked raced = still fits limit known won home v k cells pass v.draws is_fit few k.draws (same (λ e. absurd (cc))) (lasts (λ e. absurd (cc))) new (no_slot refl) refl
  evacuated_keeps evacuated.Looked left no_slot same lasts looked_slot raced_slot looked raced = once (same (λ e. absurd (cc))) (looked_slot refl) (looked refl)
  evacuated_keeps evacuated.Raced left no_slot same lasts looked_slot raced_slot looked raced = twice (raced_slot refl) (raced refl)
