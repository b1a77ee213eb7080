-- What a worker knows and drew after a look, as the cells told it and its draws went.
use Rattle.std.proofs.Common.{◌≡◌, ℕ, ◌<◌, ◌≤◌, Bool, true, false, cond, List, [], ◌∷◌, ◌++◌, All, Option, Some, None, Result, Ok, Err, refl, sym, ap, subst, ◌∙◌, true≢false}
use Rattle.std.specs.Prelude.{IsSome, OnErr, if◌then◌else◌}
use Rattle.layout.specs.declared.place.Place.{Place}
use Rattle.block_pool.specs.ClaimsValue.{SeatValue, IsSeatOf}
use Rattle.steps.specs.HeapValue.{HeapValue}
use Rattle.steps.specs.CollectionValue.{CollectionValue}
use Rattle.workers.specs.Block.{Block, has_unscanned}
use Rattle.workers.specs.Setting.{Setting, is_collected, is_large_name, destination_of}
use Rattle.workers.specs.Worker.{Worker, allocation_at}
use Rattle.workers.specs.WorkerSteps.{CanLook, current_slot, cell_wanted, draw_wanted, draws_for, is_open_at, retired, propose_into, look_at, look_slot, after_look}
use Rattle.workers.specs.WorkerRun.{Looked, noted_look, known_by_look, go}
use Rattle.workers.specs.Joined.{Each}
use Rattle.scavenge.specs.Shown.{WorkspaceValue}
use Rattle.scavenge.specs.Slots.{seen, cell_of, IsTold, Looks, WantsBlock, seat_after}
use Rattle.scavenge.specs.Slots as slots
use Rattle.scavenge.proofs.Unchanged.{finish_won}
use Rattle.workers_in_threads.specs.SharingValue.{SharingValue, setting_in, worker_of, forwarded_in}
use Rattle.workers_in_threads.specs.IsSharing.{IsSharing, HasWorked, KnowsPair}
use Rattle.workers_in_threads.specs.Sharing.{IsSame, IsRefusedBlock}
use Rattle.workers_in_threads.specs.Sharing as sharing
use Rattle.scavenge.specs.Told.{StillKnows}
use Rattle.scavenge.specs.declared.looking.LookError.{LookError}
use Rattle.scavenge.specs.declared.looking.LookError.TheVariants.{HeapFull, NoMemory}
use Rattle.workers_in_threads.proofs.Knowing.{pair_still, pair_kept, each_on}

-- nothing is won by a look
module _ (setting : Setting) (w : Worker) where
  either : (b : Bool) (x y : Worker) → x.won ≡ w.won → y.won ≡ w.won → (cond b x y).won ≡ w.won
  either true x y p q = p
  either false x y p q = q

  retired_won : (d : ℕ) (o : Option Block) → (retired w d o).won ≡ w.won
  retired_won d None = refl
  retired_won d (Some block) = either (is_open_at d w.hand) _ _ refl (either (has_unscanned block) _ _ refl refl)

  propose_won : (x : Worker) (name d : ℕ) (o : Option Block) → (propose_into setting x name d o).won ≡ x.won
  propose_won x name d None = refl
  propose_won x name d (Some block) = refl

  pub look_won : (cell : Option ℕ) (number : ℕ) → (after_look setting w cell number).won ≡ w.won
  look_won cell number = slot (current_slot setting w)
    where
      at : (cell : Option ℕ) (name : ℕ) → (look_at setting w cell number name).won ≡ w.won
      at (Some place) name = finish_won (Some place) w
      at None name =
          either (is_large_name setting name) _ _ refl
          (propose_won _ name (destination_of setting name) _ ∙ either (draws_for setting w name) _ _ (retired_won (destination_of setting name) (allocation_at w (destination_of setting name))) refl)

      slot : (o : Option (Option ℕ)) → (look_slot setting w cell number o).won ≡ w.won
      slot None = refl
      slot (Some None) = finish_won None w
      slot (Some (Some name)) = either (is_collected setting name) _ _ (at cell name) (finish_won (Some name) w)

-- what a look learns is as its history notes it
module _ (heap : HeapValue) (c : CollectionValue) (gives : ℕ → Option Place → Type 0) (old new : ℕ → Option Place) where
  pub looked_knows : (wanted : Option ℕ) (shown : Option Place) (known : List (ℕ × ℕ)) → IsTold heap c gives old new shown wanted → Each (KnowsPair heap c old) known
      → Each (KnowsPair heap c new) (known_by_look wanted (cell_of (seen heap c) wanted shown) known)
  looked_knows None shown known told each = subst (λ f. Each (KnowsPair heap c f) known) told each
  looked_knows (Some name) None known told each = each_on (KnowsPair heap c old) (KnowsPair heap c new) (pair_still heap c old new told.number None told.learns) known each
  looked_knows (Some name) (Some place) known told each = (
    record { number = told.number; of = told.of; place = place; shown = told.learns.told; stands = refl },
    each_on (KnowsPair heap c old) (KnowsPair heap c new) (pair_still heap c old new told.number (Some place) told.learns) known each,
  )

-- and so is what it drew
pub looked_drew : (b : Bool) (number : ℕ) (draws draws' : SeatValue) (drawn : List ℕ) → draws' ≡ seat_after draws b number → draws.drawn ≡ drawn → draws'.drawn ≡ (if b then drawn ++ number ∷ [] else drawn)
looked_drew true number draws draws' drawn e d = ap (λ (s : SeatValue). s.drawn) e ∙ ap (λ xs. xs ++ number ∷ []) d
looked_drew false number draws draws' drawn e d = ap (λ (s : SeatValue). s.drawn) e ∙ d

module _ {C P A : Type 0} (fits : C → P → Type 0) (limit : C → ℕ) (known : P → ℕ → Option Place) (won : P → List (ℕ × Place)) (at_home : C → P → Type 0) where
  abbrev Is : SharingValue C P A → Type 0
  Is = IsSharing fits limit known won

  -- what the pass, the draws and the worker's own part are now
  abbrev pub turned : SharingValue C P A → C → P → SeatValue → WorkspaceValue → SharingValue C P A
  turned v cells pass draws new = record v { cells = cells; pass = pass; draws = draws; workspace = new }

  pub same_turned : (v : SharingValue C P A) (cells : C) (pass : P) (draws : SeatValue) (new : WorkspaceValue) → ((x : C) → at_home x v.pass → at_home x pass) → IsSame at_home v (turned v cells pass draws new)
  same_turned v cells pass draws new home = record { heap = refl; collection = refl; claims = refl; queues = refl; workers = refl; number = refl; home = home }

  module _ (v : SharingValue C P A) (k : Is v) (cells : C) (pass : P) (draws : SeatValue) (is_fit : fits cells pass) (few : v.collection.cells ≤ limit cells) (seat : IsSeatOf v.claims.source draws) where
    -- what it did is so still, and it knows at least as much
    pub turned_is : (new : WorkspaceValue) → new.config ≡ v.workspace.config → new.names ≡ v.workspace.names → HasWorked v.heap v.collection v.workers v.seat.index (known pass) (won pass) draws v.seat new.worker → Is (turned v cells pass draws new)
    turned_is new config names worked =
        record {
          ready = k.ready;
          member = k.member;
          config = config ∙ k.config;
          names = names ∙ k.names;
          fits_cells = is_fit;
          cells = few;
          free = k.free;
          draws = seat;
          seat = k.seat;
          lanes = k.lanes;
          key = k.key;
          queued = k.queued;
          worked = worked;
        }

    module _ (same_won : won pass ≡ won v.pass) where
      -- nothing came: the worker knows more, or found no block
      pub still_worked : ((e : ℕ × ℕ) → KnowsPair v.heap v.collection (known v.pass) e → KnowsPair v.heap v.collection (known pass) e) → draws.drawn ≡ v.draws.drawn → HasWorked v.heap v.collection v.workers v.seat.index (known pass) (won pass) draws v.seat (worker_of v)
      still_worked more drawn =
          record {
            history = k.worked.history;
            run = k.worked.run;
            turns = k.worked.turns;
            handed = k.worked.handed;
            knows = each_on (KnowsPair v.heap v.collection (known v.pass)) (KnowsPair v.heap v.collection (known pass)) more k.worked.history.known k.worked.knows;
            won_are = ap (forwarded_in v.heap v.collection) same_won ∙ k.worked.won_are;
            numbers = subst (All (λ e. e.0 < v.collection.cells)) (sym same_won) k.worked.numbers;
            drawn = drawn ∙ k.worked.drawn;
            exported = k.worked.exported;
            taken = k.worked.taken;
          }

      module _ (gives : ℕ → Option Place → Type 0) (can : CanLook (setting_in v) (worker_of v)) (new : WorkspaceValue) (r : slots.Looks v.heap v.collection gives (known v.pass) (known pass) v.draws draws v.workspace new) where
        abbrev cell : Option ℕ
        cell = cell_of (seen v.heap v.collection) (cell_wanted (seen v.heap v.collection) (worker_of v)) r.shown

        looked_worked : HasWorked v.heap v.collection v.workers v.seat.index (known pass) (won pass) draws v.seat (after_look (setting_in v) (worker_of v) cell r.number)
        looked_worked =
            record {
              history = noted_look (setting_in v) (worker_of v) cell r.number (cell_wanted (setting_in v) (worker_of v)) k.worked.history;
              run = go (Looked cell r.number) k.worked.run can;
              turns = (tt, k.worked.turns);
              handed = k.worked.handed;
              knows = looked_knows v.heap v.collection gives (known v.pass) (known pass) (cell_wanted (setting_in v) (worker_of v)) r.shown k.worked.history.known r.told k.worked.knows;
              won_are = ap (forwarded_in v.heap v.collection) same_won ∙ k.worked.won_are ∙ sym (look_won (setting_in v) (worker_of v) cell r.number);
              numbers = subst (All (λ e. e.0 < v.collection.cells)) (sym same_won) k.worked.numbers;
              drawn = looked_drew (draw_wanted (setting_in v) (worker_of v) cell) r.number v.draws draws k.worked.history.drawn r.drawn k.worked.drawn;
              exported = k.worked.exported;
              taken = k.worked.taken;
            }

        pub looks : Is (turned v cells pass draws new) × sharing.Looks v (turned v cells pass draws new)
        looks = (
          turned_is new (ap (λ (w : WorkspaceValue). w.config) r.worker) (ap (λ (w : WorkspaceValue). w.names) r.worker)
              (subst (HasWorked v.heap v.collection v.workers v.seat.index (known pass) (won pass) draws v.seat) (sym (ap (λ (w : WorkspaceValue). w.worker) r.worker)) looked_worked),
          record { cell = cell; number = r.number; acts = ap (λ (w : WorkspaceValue). w.worker) r.worker },
        )

      module _ (lasts : StillKnows (known v.pass) (known pass)) where
        pub still : (new : WorkspaceValue) → new ≡ v.workspace → draws.drawn ≡ v.draws.drawn → Is (turned v cells pass draws new)
        still new e drawn =
            turned_is new (ap (λ (w : WorkspaceValue). w.config) e) (ap (λ (w : WorkspaceValue). w.names) e)
            (subst (HasWorked v.heap v.collection v.workers v.seat.index (known pass) (won pass) draws v.seat) (sym (ap (λ (w : WorkspaceValue). w.worker) e))
            (still_worked (pair_kept v.heap v.collection (known v.pass) (known pass) lasts) drawn))

        -- the call's answer: a look, or nothing
        pub look_keeps : (gives : ℕ → Option Place → Type 0) (new : WorkspaceValue) (r : Result Bool LookError) → (r ≡ Ok true → CanLook (setting_in v) (worker_of v))
            → (r ≡ Ok true → slots.Looks v.heap v.collection gives (known v.pass) (known pass) v.draws draws v.workspace new) → (r ≡ Ok false → (new ≡ v.workspace) × (pass ≡ v.pass) × (draws ≡ v.draws))
            → (r ≡ Err HeapFull → draws ≡ record v.draws { out = true }) → (r ≡ Err NoMemory → draws ≡ v.draws) → OnErr r (new ≡ v.workspace) → Is (turned v cells pass draws new)
        look_keeps gives new (Ok true) can ok none full memory err = (looks gives (can refl) new (ok refl)).0
        look_keeps gives new (Ok false) can ok none full memory err = still new (none refl).0 (ap (λ (s : SeatValue). s.drawn) (none refl).2)
        look_keeps gives new (Err HeapFull) can ok none full memory err = still new err (ap (λ (s : SeatValue). s.drawn) (full refl))
        look_keeps gives new (Err NoMemory) can ok none full memory err = still new err (ap (λ (s : SeatValue). s.drawn) (memory refl))

-- a slot was there
pub some_slot : {E : Type 0} (o : Option (Option ℕ)) (r : Result Bool E) → r ≡ Ok true → (o ≡ None → r ≡ Ok false) → IsSome o
some_slot None r is none = absurd (two (sym is ∙ none refl))
  where
    two : {E : Type 0} → ◌≡◌ {A = Result Bool E} (Ok true) (Ok false) → ⊥
    two e = true≢false (ap value e)
      where
        value : {E : Type 0} → Result Bool E → Bool
        value (Ok b) = b
        value (Err x) = true
some_slot (Some x) r is none = refl
