-- A look of the worker, as its cells tell it and its draws go, is a look of the system.
use Rattle.std.proofs.Common.{◌≡◌, ℕ, Bool, true, false, cond, List, [], ◌∷◌, ◌++◌, Option, Some, None, Result, Ok, Err, refl, sym, ap, subst, ◌∙◌, true≢false, Contains}
use Rattle.std.specs.Prelude.{◌↔◌, IsSome, OnErr}
use Rattle.std.specs.Bool.{OnTrue}
use Rattle.std.specs.Ordering.{nat_cmp}
use Rattle.std.specs.FinMap.{find}
use Rattle.model.specs.Graph.{IsClosed}
use Rattle.layout.specs.declared.place.Place.{Place}
use Rattle.block_pool.specs.ClaimsValue.{SeatValue, IsSeatOf}
use Rattle.forwarding.specs.Plain.{PlainPassValue, IsFit, place_held, known_by}
use Rattle.forwarding.specs.Plain.{PlainValue as PlainCellsValue}
use Rattle.steps.specs.HeapValue.{HeapValue}
use Rattle.steps.specs.CollectionValue.{CollectionValue}
use Rattle.steps.specs.NamesArePlaces.{NamesArePlaces}
use Rattle.heap.proofs.SoundHeap.{heap_closed, heap_places}
use Rattle.workers.specs.Block.{Block, has_unscanned}
use Rattle.workers.specs.Setting.{Setting, is_collected, is_large_name, destination_of}
use Rattle.workers.specs.Worker.{Worker, allocation_at}
use Rattle.workers.specs.WorkerSteps.{CanLook, current_slot, cell_wanted, draw_wanted, draws_for, is_open_at, retired, propose_into, look_at, look_slot, after_look}
use Rattle.workers.specs.WorkerRun.{Looked}
use Rattle.workers.specs.System.{System, Look, without_number}
use Rattle.workers.specs.System as system
use Rattle.scavenge.specs.Shown.{WorkspaceValue}
use Rattle.workers.specs.Ready.{IsUntouched}
use Rattle.workers.specs.Joined.{Roomy}
use Rattle.scavenge.specs.Slots.{seen, cell_of, IsTold, Looks, WantsBlock, seat_after}
use Rattle.one_worker.specs.SerialValue.{SerialValue, Goes, WantsDraw, system_of, setting_in}
use Rattle.scavenge.specs.Waiting.{left_of}
use Rattle.one_worker.specs.IsSerial.{IsSerial}
use Rattle.scavenge.proofs.Drawn.{left_contains, left_push}
use Rattle.one_worker.proofs.Readiness.{ready_of}
use Rattle.one_worker.proofs.Raced.{turned, acted}
use Rattle.scavenge.proofs.Unchanged.{finish_won}

-- what a look relies on, of the heap and the collection that are passed
module _ (v : SerialValue) (k : IsSerial v) (heap : HeapValue) (c : CollectionValue) (same_heap : heap ≡ v.heap) (same_collection : c ≡ v.collection) where
  pub closed_of : IsClosed heap.graph
  closed_of = subst (λ (h : HeapValue). IsClosed h.graph) (sym same_heap) (heap_closed v.heap k.ready.sound)

  pub places_of : NamesArePlaces heap.graph
  places_of = subst (λ (h : HeapValue). NamesArePlaces h.graph) (sym same_heap) (heap_places v.heap k.ready.sound)

  pub untouched_of : IsUntouched (seen heap c) v.workspace.worker
  untouched_of =
      subst (λ (h : HeapValue). IsUntouched (seen h c) v.workspace.worker) (sym same_heap)
      (subst (λ (d : CollectionValue). IsUntouched (seen v.heap d) v.workspace.worker) (sym same_collection) (ready_of v k).untouched)

  pub rooms_of : Roomy (seen heap c) v.workspace.worker
  rooms_of =
      subst (λ (h : HeapValue). Roomy (seen h c) v.workspace.worker) (sym same_heap)
      (subst (λ (d : CollectionValue). Roomy (seen v.heap d) v.workspace.worker) (sym same_collection) (ready_of v k).room)

-- nothing is won by a look
module _ (setting : Setting) (w : Worker) where
  either : (b : Bool) (x y : Worker) → x.won ≡ w.won → y.won ≡ w.won → (cond b x y).won ≡ w.won
  either true x y p q = p
  either false x y p q = q

  retired_won : (d : ℕ) (o : Option Block) → (retired w d o).won ≡ w.won
  retired_won d None = refl
  retired_won d (Some block) = either (is_open_at d w.hand) _ _ refl (either (has_unscanned block) _ _ refl refl)

  propose_won : (x : Worker) (name d : ℕ) (o : Option Block) → (propose_into setting x name d o).won ≡ x.won
  propose_won x name d None = refl
  propose_won x name d (Some block) = refl

  look_won : (cell : Option ℕ) (number : ℕ) → (after_look setting w cell number).won ≡ w.won
  look_won cell number = slot (current_slot setting w)
    where
      at : (cell : Option ℕ) (name : ℕ) → (look_at setting w cell number name).won ≡ w.won
      at (Some place) name = finish_won (Some place) w
      at None name =
          either (is_large_name setting name) _ _ refl
          (propose_won _ name (destination_of setting name) _ ∙ either (draws_for setting w name) _ _ (retired_won (destination_of setting name) (allocation_at w (destination_of setting name))) refl)

      slot : (o : Option (Option ℕ)) → (look_slot setting w cell number o).won ≡ w.won
      slot None = refl
      slot (Some None) = finish_won None w
      slot (Some (Some name)) = either (is_collected setting name) _ _ (at cell name) (finish_won (Some name) w)

module _ (v : SerialValue) (k : IsSerial v) where
  abbrev worker : Worker
  worker = v.workspace.worker

  abbrev wanted : Option ℕ
  wanted = cell_wanted (setting_in v) worker

  -- what the system's cell of the current slot's target holds
  abbrev shown : Option ℕ
  shown = system.cell_of (system_of v) wanted

  abbrev Gives : ℕ → Option Place → Type 0
  Gives number place = place ≡ place_held v.cells.held number

  -- the cells tell what was won
  told : (old new : ℕ → Option Place) (place : Option Place) (o : Option ℕ) → IsTold v.heap v.collection Gives old new place o → cell_of (setting_in v) o place ≡ system.cell_of (system_of v) o
  told old new place None t = refl
  told old new place (Some name) t = ap (cell_of (setting_in v) (Some name)) t.given ∙ k.cells.shown name t.number t.of

  empty : (o : Option ℕ) → cell_of (setting_in v) o None ≡ None
  empty None = refl
  empty (Some name) = refl

  module _ (pass : PlainPassValue) (draws : SeatValue) (fits : IsFit v.cells pass) (seat : IsSeatOf v.claims.source draws) where
    -- nothing came: the worker knows more, or found no block
    stood : IsSerial (turned v v.cells pass draws v.workspace)
    stood =
        record {
          ready = k.ready;
          config = k.config;
          names = k.names;
          claim = k.claim;
          cells = record { fits = fits; count = k.cells.count; passes = k.cells.passes; shown = k.cells.shown };
          draws = record { free = k.draws.free; seats = k.draws.seats; seat = seat };
          queue = record { key = k.queue.key; lanes = k.queue.lanes; seat = k.queue.seat; taken = k.queue.taken; labels = k.queue.labels; noted = k.queue.noted };
          worked = record { history = k.worked.history; run = k.worked.run; taken = k.worked.taken };
        }

    module _ (can : CanLook (setting_in v) worker) (fresh : (n : ℕ) → draws.drawn ≡ v.draws.drawn ++ n ∷ [] → Contains v.claims.source.free n × (Contains v.draws.drawn n → ⊥)) where
      abbrev left : List ℕ
      left = left_of v.claims.source.free v.draws.drawn

      -- what is drawn was left, and then no longer is
      drew : (b : Bool) (number : ℕ) → draws ≡ seat_after v.draws b number → OnTrue b (Contains left number) × (left_of v.claims.source.free draws.drawn ≡ cond b (without_number number left) left)
      drew false number e = (tt, ap (λ (s : SeatValue). left_of v.claims.source.free s.drawn) e)
      drew true number e =
          let new = fresh number (ap (λ (s : SeatValue). s.drawn) e) in
          (left_contains v.claims.source.free v.draws.drawn number new.0 new.1, ap (λ (s : SeatValue). left_of v.claims.source.free s.drawn) e ∙ left_push v.claims.source.free v.draws.drawn number)

      abbrev looked_to : ℕ → SerialValue
      looked_to number = turned v v.cells pass draws (record v.workspace { worker = after_look (setting_in v) worker shown number })

      went : (number : ℕ) → draws ≡ seat_after v.draws (draw_wanted (setting_in v) worker shown) number → Goes (Look 0) v (looked_to number)
      went number e =
          let d = drew (draw_wanted (setting_in v) worker shown) number e in
          record {
            heap = refl;
            collection = refl;
            step = record {
              worker = worker;
              at = record { is = refl; awake = refl };
              can = can;
              number = number;
              drawn = d.0;
              change = ap (λ won. (let s : System = record (system_of v) { workers = after_look (setting_in v) worker shown number ∷ []; forwarded = won; free = left_of v.claims.source.free draws.drawn } in s)) (look_won (setting_in v) worker shown number)
                  ∙ ap (λ free. (let s : System = record (system_of v) { workers = after_look (setting_in v) worker shown number ∷ []; free = free } in s)) d.1;
            };
          }

      kept : (number : ℕ) → IsSerial (looked_to number)
      kept number =
          acted v (Looked shown number) v.cells pass draws k can
          (record { fits = fits; count = k.cells.count; passes = k.cells.passes; shown = λ name i of. k.cells.shown name i of ∙ ap (λ won. find nat_cmp name won) (sym (look_won (setting_in v) worker shown number)) })
          seat (λ h t. t)

      looked : (new : WorkspaceValue) → Looks v.heap v.collection Gives (known_by v.pass) (known_by pass) v.draws draws v.workspace new
          → IsSerial (turned v v.cells pass draws new) × Goes (Look 0) v (turned v v.cells pass draws new)
      looked new r = subst (λ (w : WorkspaceValue). IsSerial (turned v v.cells pass draws w) × Goes (Look 0) v (turned v v.cells pass draws w)) (sym new_is) (kept r.number, went r.number drawn)
        where
          cell : cell_of (setting_in v) wanted r.shown ≡ shown
          cell = told (known_by v.pass) (known_by pass) r.shown wanted r.told

          drawn : draws ≡ seat_after v.draws (draw_wanted (setting_in v) worker shown) r.number
          drawn = r.drawn ∙ ap (λ o. seat_after v.draws (draw_wanted (setting_in v) worker o) r.number) cell

          new_is : new ≡ record v.workspace { worker = after_look (setting_in v) worker shown r.number }
          new_is = r.worker ∙ ap (λ o. (let n : WorkspaceValue = record v.workspace { worker = after_look (setting_in v) worker o r.number } in n)) cell

  -- the call's answer: a look, or nothing
  module _ (heap : HeapValue) (c : CollectionValue) (same_heap : heap ≡ v.heap) (same_collection : c ≡ v.collection) (pass : PlainPassValue) where
    abbrev WantsOn : HeapValue → CollectionValue → Type 0
    WantsOn h d = WantsBlock h d Gives (known_by v.pass) (known_by pass) v.workspace

    pub wants_draw : WantsOn heap c → WantsDraw v
    wants_draw r = on (subst (WantsOn v.heap) same_collection (subst (λ h. WantsOn h c) same_heap r))
      where
        on : WantsOn v.heap v.collection → WantsDraw v
        on x = ap (draw_wanted (setting_in v) worker) (sym (told (known_by v.pass) (known_by pass) None wanted x.told) ∙ empty wanted) ∙ x.wanted

    module _ (cells : PlainCellsValue) (same_cells : cells ≡ v.cells) (draws : SeatValue) (new : WorkspaceValue) (fits : IsFit cells pass) (seat : IsSeatOf v.claims.source draws) (can : CanLook (setting_in v) worker)
        (fresh : (n : ℕ) → draws.drawn ≡ v.draws.drawn ++ n ∷ [] → Contains v.claims.source.free n × (Contains v.draws.drawn n → ⊥)) where
      abbrev LooksOn : HeapValue → CollectionValue → Type 0
      LooksOn h d = Looks h d Gives (known_by v.pass) (known_by pass) v.draws draws v.workspace new

      fits_same : IsFit v.cells pass
      fits_same = subst (λ (cs : PlainCellsValue). IsFit cs pass) same_cells fits

      pub look_goes : LooksOn heap c → IsSerial (turned v cells pass draws new) × Goes (Look 0) v (turned v cells pass draws new)
      look_goes r =
          subst (λ (cs : PlainCellsValue). IsSerial (turned v cs pass draws new) × Goes (Look 0) v (turned v cs pass draws new)) (sym same_cells)
          (looked pass draws fits_same seat can fresh new (subst (LooksOn v.heap) same_collection (subst (λ h. LooksOn h c) same_heap r)))

    module _ (cells : PlainCellsValue) (same_cells : cells ≡ v.cells) (draws : SeatValue) (new : WorkspaceValue) (fits : IsFit cells pass) (seat : IsSeatOf v.claims.source draws)
        (fresh : (n : ℕ) → draws.drawn ≡ v.draws.drawn ++ n ∷ [] → Contains v.claims.source.free n × (Contains v.draws.drawn n → ⊥)) where
      pub stands : new ≡ v.workspace → IsSerial (turned v cells pass draws new)
      stands same =
          subst (λ (cs : PlainCellsValue). IsSerial (turned v cs pass draws new)) (sym same_cells)
          (subst (λ (w : WorkspaceValue). IsSerial (turned v v.cells pass draws w)) (sym same) (stood pass draws (subst (λ (cs : PlainCellsValue). IsFit cs pass) same_cells fits) seat))

      pub look_keeps : {E : Type 0} (r : Result Bool E) → (r ≡ Ok true → CanLook (setting_in v) worker) → (r ≡ Ok true → Looks heap c Gives (known_by v.pass) (known_by pass) v.draws draws v.workspace new)
          → (r ≡ Ok false → new ≡ v.workspace) → OnErr r (new ≡ v.workspace) → IsSerial (turned v cells pass draws new)
      look_keeps (Ok true) can ok none err = (look_goes cells same_cells draws new fits seat (can refl) fresh (ok refl)).0
      look_keeps (Ok false) can ok none err = stands (none refl)
      look_keeps (Err x) can ok none err = stands err

    abbrev pub Slot : HeapValue → CollectionValue → Option (Option ℕ)
    Slot h d = current_slot (seen h d) worker

    -- the slot in the heap and the collection that are passed is the worker's
    same_slot : Slot heap c ≡ Slot v.heap v.collection
    same_slot = ap (λ h. Slot h c) same_heap ∙ ap (Slot v.heap) same_collection

    pub slot_here : Slot heap c ≡ current_slot (setting_in v) worker
    slot_here = same_slot

    pub can_look : worker.proposal ≡ None → IsSome (Slot heap c) → CanLook (setting_in v) worker
    can_look none some = record { no_proposal = none; slot = subst IsSome same_slot some }

    -- a slot was there
    pub some_slot : {E : Type 0} (r : Result Bool E) → r ≡ Ok true → (Slot heap c ≡ None → r ≡ Ok false) → IsSome (Slot heap c)
    some_slot r is none = go (Slot heap c) refl
      where
        two : {E : Type 0} → ◌≡◌ {A = Result Bool E} (Ok true) (Ok false) → ⊥
        two e = true≢false (ap value e)
          where
            value : {E : Type 0} → Result Bool E → Bool
            value (Ok b) = b
            value (Err x) = true

        go : (o : Option (Option ℕ)) → Slot heap c ≡ o → IsSome (Slot heap c)
        go None e = absurd (two (sym is ∙ none e))
        go (Some x) e = subst IsSome (sym e) refl

    pub none_here : {E : Type 0} (r : Result Bool E) → (r ≡ Ok false) ↔ (Slot heap c ≡ None) → (r ≡ Ok false) ↔ (current_slot (setting_in v) worker ≡ None)
    none_here r k = (λ e. sym same_slot ∙ k.0 e, λ e. k.1 (same_slot ∙ e))
