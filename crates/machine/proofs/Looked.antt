-- A look of a worker, as the cells tell it and the draws go, is a look of the system.
use Rattle.std.proofs.Common.{◌≡◌, ℕ, Bool, true, false, cond, List, [], ◌∷◌, ◌++◌, map, Option, Some, None, Result, Ok, Err, refl, sym, ap, subst, ◌∙◌, true≢false, Contains}
use Rattle.std.specs.Prelude.{IsSome, OnErr, slice_get, slice_set, slice_index_or}
use Rattle.std.specs.Bool.{OnTrue}
use Rattle.std.specs.Ordering.{nat_cmp}
use Rattle.std.specs.FinMap.{find}
use Rattle.model.specs.Graph.{IsClosed}
use Rattle.layout.specs.declared.place.Place.{Place}
use Rattle.block_pool.specs.ClaimsValue.{SeatValue, IsSeatOf}
use Rattle.forwarding.specs.Plain.{PlainPassValue, IsFit, place_held, known_by}
use Rattle.forwarding.specs.Plain.{PlainValue as PlainCellsValue}
use Rattle.steps.specs.HeapValue.{HeapValue}
use Rattle.steps.specs.CollectionValue.{CollectionValue}
use Rattle.steps.specs.NamesArePlaces.{NamesArePlaces}
use Rattle.heap.proofs.SoundHeap.{heap_closed, heap_places}
use Rattle.workers.specs.Setting.{Setting}
use Rattle.workers.specs.Worker.{Worker}
use Rattle.workers.specs.WorkerSteps.{current_slot, CanLook, cell_wanted, draw_wanted, after_look}
use Rattle.workers.specs.WorkerRun.{Looked}
use Rattle.workers.specs.System.{System, Look, without_number}
use Rattle.workers.specs.System as system
use Rattle.workers.specs.Steps.{IsAwake}
use Rattle.workers.specs.Lawful.{IsLawful, IsRefused}
use Rattle.scavenge.specs.Shown.{WorkspaceValue}
use Rattle.scavenge.specs.declared.looking.LookError.{LookError}
use Rattle.scavenge.specs.declared.looking.LookError.TheVariants.{HeapFull, NoMemory}
use Rattle.workers.specs.Ready.{IsUntouched}
use Rattle.workers.specs.Joined.{Roomy}
use Rattle.scavenge.specs.Slots.{seen, cell_of, IsTold, Looks, WantsBlock, seat_after}
use Rattle.scavenge.specs.Waiting.{left_of}
use Rattle.scavenge.proofs.Drawn.{left_contains, left_push}
use Rattle.machine.specs.InterleavedValue.{InterleavedValue, MemberValue, worker_of, Goes, Stays, WantsDraw, system_of, setting_in, forwarded_in, forwarded_at}
use Rattle.machine.specs.IsInterleaved.{IsInterleaved, AreForwarded, HasReached}
use Rattle.machine.proofs.Places.{get-map, set-again}
use Rattle.machine.proofs.Takers.{takers_same}
use Rattle.machine.proofs.Reaching.{reached_still}
use Rattle.machine.proofs.Members.{Does, doing, renewed, renews, system-renewed, taken-same, member_on, is_in}
use Rattle.machine.proofs.Readiness.{ready_of}

-- what a look relies on, of the heap and the collection that are passed
module _ (v : InterleavedValue) (k : IsInterleaved v) (t : ℕ) (m : MemberValue) (at : slice_get v.members t ≡ Some m) (heap : HeapValue) (c : CollectionValue) (same_heap : heap ≡ v.heap) (same_collection : c ≡ v.collection) where
  pub closed_of : IsClosed heap.graph
  closed_of = subst (λ (h : HeapValue). IsClosed h.graph) (sym same_heap) (heap_closed v.heap k.ready.sound)

  pub places_of : NamesArePlaces heap.graph
  places_of = subst (λ (h : HeapValue). NamesArePlaces h.graph) (sym same_heap) (heap_places v.heap k.ready.sound)

  pub config_of : m.workspace.config ≡ heap.config
  config_of = (k.each t m at).config ∙ ap (λ (h : HeapValue). h.config) (sym same_heap)

  abbrev OnPassed : (HeapValue → CollectionValue → Type 0) → Type 0
  OnPassed P = P v.heap v.collection → P heap c

  passed : (P : HeapValue → CollectionValue → Type 0) → OnPassed P
  passed P x = subst (λ (h : HeapValue). P h c) (sym same_heap) (subst (P v.heap) (sym same_collection) x)

  pub can_of : CanLook (setting_in v) m.workspace.worker → CanLook (seen heap c) m.workspace.worker
  can_of can = passed (λ h d. CanLook (seen h d) m.workspace.worker) (record { no_proposal = can.no_proposal; slot = can.slot })

  pub untouched_of : IsUntouched (seen heap c) m.workspace.worker
  untouched_of = passed (λ h d. IsUntouched (seen h d) m.workspace.worker) (ready_of v.heap v.collection k.ready v.workers t m (k.each t m at)).untouched

  pub rooms_of : Roomy (seen heap c) m.workspace.worker
  rooms_of = passed (λ h d. Roomy (seen h d) m.workspace.worker) (ready_of v.heap v.collection k.ready v.workers t m (k.each t m at)).room

module _ (v : InterleavedValue) (k : IsInterleaved v) (t : ℕ) (m : MemberValue) (at : slice_get v.members t ≡ Some m) where
  abbrev worker : Worker
  worker = m.workspace.worker

  abbrev wanted : Option ℕ
  wanted = cell_wanted (setting_in v) worker

  -- what the system's cell of the current slot's target holds
  abbrev shown : Option ℕ
  shown = system.cell_of (system_of v) wanted

  abbrev Gives : ℕ → Option Place → Type 0
  Gives number place = place ≡ place_held v.cells.held number

  -- the cells tell what was won
  told : (old new : ℕ → Option Place) (place : Option Place) (o : Option ℕ) → IsTold v.heap v.collection Gives old new place o → cell_of (setting_in v) o place ≡ system.cell_of (system_of v) o
  told old new place None r = refl
  told old new place (Some name) r = ap (cell_of (setting_in v) (Some name)) r.given ∙ k.cells.shown name r.number r.of

  empty : (o : Option ℕ) → cell_of (setting_in v) o None ≡ None
  empty None = refl
  empty (Some name) = refl

  module _ (pass : PlainPassValue) (draws : SeatValue) (fits : IsFit v.cells pass) (won : pass.won ≡ v.pass.won) (seat : IsSeatOf v.claims.source draws) where
    forwarded_same : forwarded_in v.heap v.collection pass ≡ forwarded_in v.heap v.collection v.pass
    forwarded_same = ap (map (λ (e : ℕ × Place). forwarded_at v.heap v.collection e.0 e.1)) won

    forwarded : AreForwarded v.heap v.collection v.cells pass
    forwarded = record { fits = fits; passes = k.cells.passes; count = k.cells.count; shown = λ name number of. k.cells.shown name number of ∙ ap (λ fs. find nat_cmp name fs) (sym forwarded_same) }

    -- nothing came: more is known, or no block was found
    stood : draws.drawn ≡ v.draws.drawn → IsInterleaved (renewed v v.cells pass draws v.queues t m)
    stood drawn = renews v k t m m at v.cells pass draws v.queues forwarded (record { free = k.draws.free; seats = k.draws.seats; seat = seat }) k.queue refl (k.each t m at) (takers_same v.members t m m at v.queues.lanes refl k.takers) (reached_still v (renewed v v.cells pass draws v.queues t m) k.reached stays)
      where
        stays : Stays v (renewed v v.cells pass draws v.queues t m)
        stays =
            record {
              heap = refl;
              collection = refl;
              workers = refl;
              system = system-renewed v v.cells pass draws v.queues t m m at refl refl
                  ∙ ap (λ ts. (let s : System = record (system_of v) { workers = slice_set (system_of v).workers t worker; forwarded = forwarded_in v.heap v.collection pass; free = left_of v.claims.source.free draws.drawn; taken = ts } in s)) (taken-same v t m at)
                  ∙ ap (λ fs. (let s : System = record (system_of v) { workers = slice_set (system_of v).workers t worker; forwarded = fs; free = left_of v.claims.source.free draws.drawn } in s)) forwarded_same
                  ∙ ap (λ ns. (let s : System = record (system_of v) { workers = slice_set (system_of v).workers t worker; free = left_of v.claims.source.free ns } in s)) drawn
                  ∙ ap (λ ws. (let s : System = record (system_of v) { workers = ws } in s)) (set-again (system_of v).workers t worker (get-map worker_of v.members t m at));
            }

    module _ (awake : IsAwake (system_of v) t m.workspace.worker) (can : CanLook (setting_in v) worker) (fresh : (n : ℕ) → draws.drawn ≡ v.draws.drawn ++ n ∷ [] → Contains v.claims.source.free n × (Contains v.draws.drawn n → ⊥)) where
      abbrev left : List ℕ
      left = left_of v.claims.source.free v.draws.drawn

      -- what is drawn was left, and then no longer is
      drew : (b : Bool) (number : ℕ) → draws ≡ seat_after v.draws b number → OnTrue b (Contains left number) × (left_of v.claims.source.free draws.drawn ≡ cond b (without_number number left) left)
      drew false number e = (tt, ap (λ (s : SeatValue). left_of v.claims.source.free s.drawn) e)
      drew true number e =
          let new = fresh number (ap (λ (s : SeatValue). s.drawn) e) in
          (left_contains v.claims.source.free v.draws.drawn number new.0 new.1, ap (λ (s : SeatValue). left_of v.claims.source.free s.drawn) e ∙ left_push v.claims.source.free v.draws.drawn number)

      abbrev looked : ℕ → WorkspaceValue
      looked number = record m.workspace { worker = after_look (setting_in v) worker shown number }

      abbrev looked_to : WorkspaceValue → InterleavedValue
      looked_to new = renewed v v.cells pass draws v.queues t (record m { workspace = new })

      went : (number : ℕ) → draws ≡ seat_after v.draws (draw_wanted (setting_in v) worker shown) number → Goes (Look t) v (looked_to (looked number))
      went number e =
          let d = drew (draw_wanted (setting_in v) worker shown) number e in
          record {
            heap = refl;
            collection = refl;
            workers = refl;
            step = record {
              worker = worker;
              at = awake;
              can = can;
              number = number;
              drawn = d.0;
              change = system-renewed v v.cells pass draws v.queues t m (record m { workspace = looked number }) at refl refl
                  ∙ ap (λ ts. (let s : System = record (system_of v) { workers = slice_set (system_of v).workers t (after_look (setting_in v) worker shown number); forwarded = forwarded_in v.heap v.collection pass; free = left_of v.claims.source.free draws.drawn; taken = ts } in s)) (taken-same v t m at)
                  ∙ ap (λ fs. (let s : System = record (system_of v) { workers = slice_set (system_of v).workers t (after_look (setting_in v) worker shown number); forwarded = fs; free = left_of v.claims.source.free draws.drawn } in s)) forwarded_same
                  ∙ ap (λ free. (let s : System = record (system_of v) { workers = slice_set (system_of v).workers t (after_look (setting_in v) worker shown number); free = free } in s)) d.1;
            };
          }

      kept : (number : ℕ) → HasReached (looked_to (looked number)) → IsInterleaved (looked_to (looked number))
      kept number reached =
          renews v k t m (record m { workspace = looked number }) at v.cells pass draws v.queues forwarded (record { free = k.draws.free; seats = k.draws.seats; seat = seat }) k.queue refl
          (member_on v.heap v.collection v.workers t m (Looked shown number) (k.each t m at) can (λ h l. l)) (takers_same v.members t m (record m { workspace = looked number }) at v.queues.lanes refl k.takers) reached

      looks : (new : WorkspaceValue) → Looks v.heap v.collection Gives (known_by v.pass) (known_by pass) v.draws draws m.workspace new → Does (Look t) v (looked_to new)
      looks new r = subst (λ (w : WorkspaceValue). Does (Look t) v (looked_to w)) (sym new_is) (doing (Look t) v (looked_to (looked r.number)) k (kept r.number) (went r.number drawn))
        where
          cell : cell_of (setting_in v) wanted r.shown ≡ shown
          cell = told (known_by v.pass) (known_by pass) r.shown wanted r.told

          drawn : draws ≡ seat_after v.draws (draw_wanted (setting_in v) worker shown) r.number
          drawn = r.drawn ∙ ap (λ o. seat_after v.draws (draw_wanted (setting_in v) worker o) r.number) cell

          new_is : new ≡ looked r.number
          new_is = r.worker ∙ ap (λ o. (let n : WorkspaceValue = record m.workspace { worker = after_look (setting_in v) worker o r.number } in n)) cell

pub same_error : {A E : Type 0} {x y : E} → ◌≡◌ {A = Result A E} (Err x) (Err y) → x ≡ y
same_error {x = x} {y = y} e = cc

-- a worker that can look has a slot
pub has_slot : {E : Type 0} (setting : Setting) (w : Worker) (r : Result Bool E) → CanLook setting w → (r ≡ Ok false → current_slot setting w ≡ None) → r ≡ Ok false → ⊥
has_slot setting w r can none e = go (current_slot setting w) can.slot (none e)
  where
    go : (o : Option (Option ℕ)) → IsSome o → o ≡ None → ⊥
    go None some is = true≢false (sym some)
    go (Some x) some is = absurd (cc)

pub is_there : {E : Type 0} (r : Result Bool E) (b : Bool) → r ≡ Ok b → (r ≡ Ok false → ⊥) → r ≡ Ok true
is_there r true is there = is
is_there r false is there = absurd (there is)

-- a block is wanted, and none is left
pub is_refused : (v : InterleavedValue) (t : ℕ) → IsLawful (setting_in v) (system_of v) (Look t) → WantsDraw v t → (system_of v).free ≡ [] → IsRefused (setting_in v) (system_of v) (Look t)
is_refused v t lawful wants none =
    record { t = t; worker = wants.worker; look = refl; at = wants.at; can = subst (CanLook (setting_in v)) same lawful.can; wanted = wants.wanted; none_free = none }
  where
    same : lawful.worker ≡ wants.worker
    same = let e : Some lawful.worker ≡ Some wants.worker = sym lawful.at.is ∙ wants.at.is in cc

-- the call's answer: a look, or nothing
module _ (v : InterleavedValue) (k : IsInterleaved v) (t : ℕ) (m : MemberValue) (is : m ≡ slice_index_or v.members t m) (lawful : IsLawful (setting_in v) (system_of v) (Look t)) (heap : HeapValue) (c : CollectionValue) (same_heap : heap ≡ v.heap) (same_collection : c ≡ v.collection) (pass : PlainPassValue) where
  abbrev WantsOn : HeapValue → CollectionValue → Type 0
  WantsOn h d = WantsBlock h d (λ number place. place ≡ place_held v.cells.held number) (known_by v.pass) (known_by pass) m.workspace

  pub wants_draw : WantsOn heap c → WantsDraw v t
  wants_draw r = on (subst (WantsOn v.heap) same_collection (subst (λ h. WantsOn h c) same_heap r))
    where
      on : WantsOn v.heap v.collection → WantsDraw v t
      on x =
          let i = is_in _ v t m is lawful in
          record {
            worker = m.workspace.worker;
            at = i.awake;
            wanted = ap (draw_wanted (setting_in v) m.workspace.worker) (sym (told v k t m i.there (known_by v.pass) (known_by pass) None (cell_wanted (setting_in v) m.workspace.worker) x.told) ∙ empty v k t m i.there (cell_wanted (setting_in v) m.workspace.worker)) ∙ x.wanted;
          }

  module _ (cells : PlainCellsValue) (same_cells : cells ≡ v.cells) (draws : SeatValue) (new : WorkspaceValue) (fits : IsFit cells pass) (won : pass.won ≡ v.pass.won) (seat : IsSeatOf v.claims.source draws)
      (fresh : (n : ℕ) → draws.drawn ≡ v.draws.drawn ++ n ∷ [] → Contains v.claims.source.free n × (Contains v.draws.drawn n → ⊥)) where
    abbrev LooksOn : HeapValue → CollectionValue → Type 0
    LooksOn h d = Looks h d (λ number place. place ≡ place_held v.cells.held number) (known_by v.pass) (known_by pass) v.draws draws m.workspace new

    abbrev next : PlainCellsValue → WorkspaceValue → InterleavedValue
    next cs w = renewed v cs pass draws v.queues t (record m { workspace = w })

    fits_same : IsFit v.cells pass
    fits_same = subst (λ (cs : PlainCellsValue). IsFit cs pass) same_cells fits

    pub look_does : LooksOn heap c → Does (Look t) v (next cells new)
    look_does r =
        let i = is_in _ v t m is lawful in
        subst (λ (cs : PlainCellsValue). Does (Look t) v (next cs new)) (sym same_cells)
        (looks v k t m i.there pass draws fits_same won seat i.awake i.can fresh new (subst (LooksOn v.heap) same_collection (subst (λ h. LooksOn h c) same_heap r)))

    pub look_keeps : (r : Result Bool LookError) → (r ≡ Ok false → ⊥) → (r ≡ Ok true → LooksOn heap c) → (r ≡ Err HeapFull → draws ≡ record v.draws { out = true }) → (r ≡ Err NoMemory → draws ≡ v.draws) → OnErr r (new ≡ m.workspace) → IsInterleaved (next cells new)
    look_keeps (Ok true) there ok full memory err = (look_does (ok refl)).0
    look_keeps (Ok false) there ok full memory err = absurd (there refl)
    look_keeps (Err x) there ok full memory err =
        let i = is_in _ v t m is lawful in
        subst (λ (cs : PlainCellsValue). IsInterleaved (next cs new)) (sym same_cells)
        (subst (λ (w : WorkspaceValue). IsInterleaved (next v.cells w)) (sym err) (stood v k t m i.there pass draws fits_same won seat (drawn_same x refl full memory)))
      where
        drawn_same : (e : LookError) → ◌≡◌ {A = Result Bool LookError} (Err x) (Err e) → (◌≡◌ {A = Result Bool LookError} (Err x) (Err HeapFull) → draws ≡ record v.draws { out = true }) → (◌≡◌ {A = Result Bool LookError} (Err x) (Err NoMemory) → draws ≡ v.draws) → draws.drawn ≡ v.draws.drawn
        drawn_same HeapFull is full memory = ap (λ (s : SeatValue). s.drawn) (full is)
        drawn_same NoMemory is full memory = ap (λ (s : SeatValue). s.drawn) (memory is)
