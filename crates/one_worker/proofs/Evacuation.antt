-- A worker that looks and races at once takes two events of the system.
use Rattle.std.proofs.Common.{sym, ◌≡◌, ℕ, [], ◌∷◌, ◌++◌, length, Option, None, refl, ap, arith, length-append, Contains, Some, subst, ◌∙◌}
use Rattle.std.specs.Prelude.{IsSome}
use Rattle.layout.specs.declared.place.Place.{Place}
use Rattle.block_pool.specs.ClaimsValue.{SeatValue}
use Rattle.forwarding.specs.Plain.{PlainPassValue, IsFit, RacesTo, place_held, known_by}
use Rattle.forwarding.specs.Plain.{PlainValue as PlainCellsValue}
use Rattle.steps.specs.HeapValue.{HeapValue}
use Rattle.steps.specs.CollectionValue.{CollectionValue}
use Rattle.workers.specs.WorkerSteps.{current_slot}
use Rattle.workers.specs.System.{Look}
use Rattle.scavenge.specs.Shown.{WorkspaceValue}
use Rattle.scavenge.specs.Slots.{seen, Looks, objects_of, cell_of}
use Rattle.scavenge.specs.Evacuates.{WantsMore, LooksAndRaces}
use Rattle.scavenge.specs.Evacuates as evacuates
use Rattle.heap.specs.Found.{HasNumber}
use Rattle.scavenge.specs.declared.evacuating.Evacuated.{Evacuated}
use Rattle.scavenge.specs.declared.evacuating.Evacuated.TheVariants as evacuated
use Rattle.one_worker.specs.SerialValue.{SerialValue, Goes, Stays, LooksThenRaces, system_of, IsUncopied, setting_in}
use Rattle.one_worker.specs.IsSerial.{IsSerial}
use Rattle.one_worker.proofs.Raced.{turned, race_goes}
use Rattle.one_worker.proofs.Looked.{look_goes, stands, can_look, slot_here}

module _ (v : SerialValue) (k : IsSerial v) (heap : HeapValue) (c : CollectionValue) (same_heap : heap ≡ v.heap) (same_collection : c ≡ v.collection) (none : v.workspace.worker.proposal ≡ None)
    (cells : PlainCellsValue) (pass : PlainPassValue) (new : WorkspaceValue) (fits : IsFit cells pass) (count : length cells.held ≡ length v.cells.held) where
  abbrev Gives : ℕ → Option Place → Type 0
  Gives number place = place ≡ place_held v.cells.held number

  abbrev pub HasSlot : Type 0
  HasSlot = IsSome (current_slot (seen heap c) v.workspace.worker)

  abbrev pub LooksOnly : Type 0
  LooksOnly = (seat : SeatValue) → Looks heap c Gives (known_by v.pass) (known_by pass) seat seat v.workspace new

  abbrev pub LooksToo : Type 0
  LooksToo = LooksAndRaces heap c (IsFit v.cells) known_by (λ (p : PlainPassValue). p.won) Gives (λ number at o. RacesTo v.cells number at o cells) v.pass pass v.workspace new

  abbrev pub after_all : SerialValue
  after_all = turned v cells pass v.draws new

  -- no block was drawn
  none_fresh : (n : ℕ) → v.draws.drawn ≡ v.draws.drawn ++ n ∷ [] → Contains v.claims.source.free n × (Contains v.draws.drawn n → ⊥)
  none_fresh n e = absurd (let l = length-append v.draws.drawn (n ∷ []) in let m : length v.draws.drawn ≡ length (v.draws.drawn ++ n ∷ []) = ap length e in omega (arith, l, m))

  pub goes_once : cells ≡ v.cells → HasSlot → LooksOnly → IsSerial after_all × Goes (Look 0) v after_all
  goes_once same slot looks =
      look_goes v k heap c same_heap same_collection pass cells same v.draws new fits k.draws.seat (can_look v k heap c same_heap same_collection pass none slot) none_fresh (looks v.draws)

  pub goes_twice : HasSlot → LooksToo → IsSerial after_all × LooksThenRaces v after_all
  goes_twice slot r =
      let l = look_goes v k heap c same_heap same_collection r.between v.cells refl v.draws r.proposing r.fit k.draws.seat (can_look v k heap c same_heap same_collection r.between none slot) none_fresh (r.looks v.draws) in
      let g = race_goes (turned v v.cells r.between v.draws r.proposing) l.0 r.proposed heap c same_heap same_collection cells pass new fits count r.races in
      (g.0, record { between = turned v v.cells r.between v.draws r.proposing; looks = l.1; proposed = r.proposed; races = g.1 })

  still_serial : cells ≡ v.cells → new ≡ v.workspace → IsSerial after_all
  still_serial same e = stands v k heap c same_heap same_collection pass cells same v.draws new fits k.draws.seat none_fresh e

  pub stays : new ≡ v.workspace → Stays v after_all
  stays e = record { heap = refl; collection = refl; system = ap (λ (w : WorkspaceValue). system_of (turned v cells pass v.draws w)) e }

  pub evacuated_keeps : (r : Evacuated) → (r ≡ evacuated.Left → new ≡ v.workspace) → (r ≡ evacuated.NoSlot → new ≡ v.workspace) → ((r ≡ evacuated.Raced → ⊥) → cells ≡ v.cells)
      → (r ≡ evacuated.Looked → HasSlot) → (r ≡ evacuated.Raced → HasSlot) → (r ≡ evacuated.Looked → LooksOnly) → (r ≡ evacuated.Raced → LooksToo) → IsSerial after_all
  evacuated_keeps evacuated.Left left no_slot same looked_slot raced_slot looked raced = still_serial (same (λ e. absurd (cc))) (left refl)
  evacuated_keeps evacuated.NoSlot left no_slot same looked_slot raced_slot looked raced = still_serial (same (λ e. absurd (cc))) (no_slot refl)
  evacuated_keeps evacuated.Looked left no_slot same looked_slot raced_slot looked raced = (goes_once (same (λ e. absurd (cc))) (looked_slot refl) (looked refl)).0
  evacuated_keeps evacuated.Raced left no_slot same looked_slot raced_slot looked raced = (goes_twice (raced_slot refl) (raced refl)).0

  -- a slot is left for the same cause
  pub left_why : evacuates.IsUncopied heap c Gives v.workspace.worker → IsUncopied v
  left_why u =
      let of : HasNumber v.heap v.collection u.leads.name u.leads.number = subst (λ h. HasNumber h v.collection u.leads.name u.leads.number) same_heap (subst (λ d. HasNumber heap d u.leads.name u.leads.number) same_collection u.leads.of) in
      record {
        name = u.leads.name;
        slot = sym (slot_here v k heap c same_heap same_collection pass) ∙ u.leads.slot;
        empty = sym (k.cells.shown u.leads.name u.leads.number of) ∙ ap (cell_of (setting_in v) (Some u.leads.name)) (sym u.leads.given);
        wants = subst (λ h. WantsMore (objects_of h) v.workspace.worker u.leads.name) same_heap u.wants;
      }
