-- What lasts from event to event, and what each makes less.
use Rattle.std.proofs.Common.{◌≡◌, ◌≢◌, ℕ, ◌+◌, ◌<◌, Bool, true, false, cond, nat_eq, List, [], ◌∷◌, map, Option, Some, None, Result, Ok, Err, refl, sym, ap, subst, ◌∙◌, inl, inr, arith}
use Rattle.std.specs.Prelude.{IsSome, is_some, IfOk, OnErr}
use Rattle.std.proofs.lemmas.Result.{IfOk-at_ok, on_err_weaker}
use Rattle.block_pool.specs.Drawn.{times_in}
use Rattle.block_pool.proofs.ClaimLemmas.{IsDistinct-rising, times-distinct}
use Rattle.steps.specs.HeapValue.{HeapValue}
use Rattle.steps.specs.CollectionValue.{CollectionValue, target_of_slot}
use Rattle.heap.proofs.SoundHeap.{heap_free}
use Rattle.model.specs.Destination.{dest_count}
use Rattle.workers.specs.Setting.{Setting, setting_of}
use Rattle.workers.specs.Worker.{Worker, Hand, Nothing, Open, Holding, HoldingLarge, Proposal}
use Rattle.workers.specs.Block.{Block}
use Rattle.workers.specs.WorkerSteps.{draw_wanted, cell_wanted, current_slot}
use Rattle.workers.specs.System.{System, Look, Race, Scan, Idle, cell_of, opening}
use Rattle.workers.specs.Total.{times}
use Rattle.workers.specs.Lawful.{next_alone, next_of_one, race_or, look_or, scan_or, export_or, take_or, own_or, large_or, lowest_open}
use Rattle.workers.specs.Measure.{measure, young_names_of, IsWake}
use Rattle.workers.specs.Finish.{Stepped, IsReached}
use Rattle.workers.proofs.OneMore.{stepped_more, stepped_run}
use Rattle.workers.proofs.Reached.{reached_falls, young_covers}
use Rattle.scavenge.specs.Evacuates.{WantsMore}
use Rattle.scavenge.specs.Shown.{has_another}
use Rattle.one_worker.specs.SerialValue.{SerialValue, Goes, Stays, IsUncopied, LooksThenRaces, WantsDraw, system_of, setting_in, targets_in, destinations_in}
use Rattle.scavenge.specs.ReadyToCollect.{IsReadyToCollect}
use Rattle.one_worker.proofs.Readiness.{room_of}
use Rattle.one_worker.proofs.Order.{next_look, next_race, next_scan}
use Rattle.one_worker.specs.Stepping.{IsOf, GoesOn, IsDone, HasStepped, IsLeftToStep, ScansNext, left_to_do}

same_times : (n : ℕ) (xs : List ℕ) → times n xs ≡ times_in n xs
same_times n [] = refl
same_times n (x ∷ xs) = ap (λ k. cond (nat_eq x n) 1 0 + k) (same_times n xs)

-- a state that was reached
pub reached_of : (v : SerialValue) → IsReadyToCollect v.heap v.collection → HasStepped v → IsReached (setting_in v) (destinations_in v) 1 (targets_in v) v.heap.free (system_of v)
reached_of v ready h =
    let r = stepped_run (setting_in v) h.run in
    record {
      some = omega arith;
      room = room_of v ready;
      distinct = λ k. (let d = times-distinct v.heap.free (IsDistinct-rising v.heap.free (heap_free v.heap ready.sound).rising) k in let s = same_times k v.heap.free in omega (arith, d, s));
      events = r.0;
      run = r.1;
    }

-- so many events, in the collection of that heap
abbrev StepsTo : HeapValue → CollectionValue → ℕ → System → Type 0
StepsTo heap c count s =
    Stepped (setting_of heap.graph c.generation heap.config.shape heap.config.block_words 1) (next_alone (setting_of heap.graph c.generation heap.config.shape heap.config.block_words 1))
    (opening (dest_count heap.config.shape c.generation) 1 (map target_of_slot c.slots) heap.free) count s

pub one_more : (old new : SerialValue) → HasStepped old → GoesOn old new → HasStepped new
one_more old new h g =
    record {
      count = h.count + 1;
      run = subst (λ heap. StepsTo heap new.collection (h.count + 1) (system_of new)) (sym g.goes.heap) (subst (λ c. StepsTo old.heap c (h.count + 1) (system_of new)) (sym g.goes.collection)
          (stepped_more (setting_in old) g.event h.run g.is_next g.goes.step));
    }

pub none_more : (old new : SerialValue) → HasStepped old → Stays old new → HasStepped new
none_more old new h g =
    record { count = h.count; run = subst (λ heap. StepsTo heap new.collection h.count (system_of new)) (sym g.heap) (subst (λ c. StepsTo old.heap c h.count (system_of new)) (sym g.collection) (subst (StepsTo old.heap old.collection h.count) (sym g.system) h.run)) }

pub still_of : (heap : HeapValue) (c : CollectionValue) (old new : SerialValue) → IsOf heap c old → new.heap ≡ old.heap → new.collection ≡ old.collection → IsOf heap c new
still_of heap c old new k h d = record { heap_is = k.heap_is ∙ sym h; collection_is = k.collection_is ∙ sym d }

only : {x y : Worker} → x ∷ [] ≡ y ∷ [] → x ≡ y
only {x = x} {y = y} e = cc

-- what a look wants it wants where nothing came
pub wants_still : (old new : SerialValue) → Stays old new → WantsDraw old → WantsDraw new
wants_still old new g wants =
    let w : new.workspace.worker ≡ old.workspace.worker = only (ap (λ (s : System). s.workers) g.system) in
    subst (λ heap. Wants heap new.collection new.workspace.worker (system_of new)) (sym g.heap) (subst (λ c. Wants old.heap c new.workspace.worker (system_of new)) (sym g.collection)
    (subst (λ x. Wants old.heap old.collection x (system_of new)) (sym w) (subst (Wants old.heap old.collection old.workspace.worker) (sym g.system) wants)))
  where
    Wants : HeapValue → CollectionValue → Worker → System → Type 0
    Wants heap c x s = draw_wanted (setting_of heap.graph c.generation heap.config.shape heap.config.block_words 1) x (cell_of s (cell_wanted (setting_of heap.graph c.generation heap.config.shape heap.config.block_words 1) x)) ≡ true

-- it is no wake
no_wake : (setting : Setting) (w : Worker) (queue : List Block) → IsWake (next_of_one setting 0 w queue) → ⊥
no_wake setting w queue = race w.proposal
  where
    large : (ns : List ℕ) → IsWake (large_or 0 ns (Idle 0)) → ⊥
    large [] k = k
    large (n ∷ ns) k = k

    own : (o : Option ℕ) → IsWake (own_or 0 o (large_or 0 w.large (Idle 0))) → ⊥
    own None k = large w.large k
    own (Some d) k = k

    take : (bs : List Block) → IsWake (take_or 0 bs (own_or 0 (lowest_open 0 w.allocation) (large_or 0 w.large (Idle 0)))) → ⊥
    take [] k = own (lowest_open 0 w.allocation) k
    take (b ∷ bs) k = k

    export : (bs : List Block) → IsWake (export_or 0 bs (take_or 0 queue (own_or 0 (lowest_open 0 w.allocation) (large_or 0 w.large (Idle 0))))) → ⊥
    export [] k = take queue k
    export (b ∷ bs) k = k

    scan : (h : Hand) → IsWake (scan_or 0 h (export_or 0 w.aside (take_or 0 queue (own_or 0 (lowest_open 0 w.allocation) (large_or 0 w.large (Idle 0)))))) → ⊥
    scan Nothing k = export w.aside k
    scan (Open d) k = k
    scan (Holding b) k = k
    scan (HoldingLarge n) k = k

    look : (o : Option (Option ℕ)) → IsWake (look_or 0 o (scan_or 0 w.hand (export_or 0 w.aside (take_or 0 queue (own_or 0 (lowest_open 0 w.allocation) (large_or 0 w.large (Idle 0))))))) → ⊥
    look None k = scan w.hand k
    look (Some o) k = k

    race : (o : Option Proposal) → IsWake (race_or 0 o (look_or 0 (current_slot setting w) (scan_or 0 w.hand (export_or 0 w.aside (take_or 0 queue (own_or 0 (lowest_open 0 w.allocation) (large_or 0 w.large (Idle 0)))))))) → ⊥
    race None k = look (current_slot setting w) k
    race (Some p) k = k

some_same : {X : Type 0} {x y : X} → Some x ≡ Some y → x ≡ y
some_same {x = x} {y = y} e = cc

pub less_left : (old new : SerialValue) → IsReadyToCollect old.heap old.collection → HasStepped old → GoesOn old new → left_to_do new < left_to_do old
less_left old new ready h g =
    subst (λ heap. Left heap new.collection (system_of new) < left_to_do old) (sym g.goes.heap) (subst (λ c. Left old.heap c (system_of new) < left_to_do old) (sym g.goes.collection)
    (reached_falls (setting_in old) (destinations_in old) 1 (targets_in old) old.heap.free (system_of old) (reached_of old ready h) (young_names_of old.heap.graph old.collection.generation)
    (young_covers old.heap.graph old.collection.generation old.heap.config.shape old.heap.config.block_words 1) (system_of new) g.event g.goes.step
    (λ wake. no_wake (setting_in old) old.workspace.worker _ (subst IsWake (sym (some_same g.is_next)) wake))))
  where
    Left : HeapValue → CollectionValue → System → ℕ
    Left heap c s = measure (setting_of heap.graph c.generation heap.config.shape heap.config.block_words 1) (young_names_of heap.graph c.generation) s

-- one event more, and less is left
pub went : (old new : SerialValue) → IsReadyToCollect old.heap old.collection → HasStepped old → GoesOn old new → HasStepped new × (left_to_do new < left_to_do old)
went old new ready h g = (one_more old new h g, less_left old new ready h g)

pub went_look : (old new : SerialValue) → IsReadyToCollect old.heap old.collection → HasStepped old → old.workspace.worker.proposal ≡ None → IsSome (current_slot (setting_in old) old.workspace.worker) → Goes (Look 0) old new → HasStepped new × (left_to_do new < left_to_do old)
went_look old new ready h none slot g = went old new ready h (record { event = Look 0; is_next = ap Some (next_look (setting_in old) old.workspace.worker _ none slot); goes = g })

pub went_scan : (old new : SerialValue) → IsReadyToCollect old.heap old.collection → HasStepped old → old.workspace.worker.proposal ≡ None → current_slot (setting_in old) old.workspace.worker ≡ None → old.workspace.worker.hand ≢ Nothing → Goes (Scan 0) old new → HasStepped new × (left_to_do new < left_to_do old)
went_scan old new ready h none no_slot hand g = went old new ready h (record { event = Scan 0; is_next = ap Some (next_scan (setting_in old) old.workspace.worker _ none no_slot hand); goes = g })

-- the heap and the collection last
pub ready_still : (old new : SerialValue) → new.heap ≡ old.heap → new.collection ≡ old.collection → IsReadyToCollect old.heap old.collection → IsReadyToCollect new.heap new.collection
ready_still old new h d ready = subst (λ heap. IsReadyToCollect heap new.collection) (sym h) (subst (IsReadyToCollect old.heap) (sym d) ready)

pub went_twice : (old new : SerialValue) → IsReadyToCollect old.heap old.collection → HasStepped old → old.workspace.worker.proposal ≡ None → IsSome (current_slot (setting_in old) old.workspace.worker) → LooksThenRaces old new → HasStepped new × (left_to_do new < left_to_do old)
went_twice old new ready h none slot g =
    let a = went_look old g.between ready h none slot g.looks in
    let b = went g.between new (ready_still old g.between g.looks.heap g.looks.collection ready) a.0 (record { event = Race 0; is_next = ap Some (next_race (setting_in g.between) g.between.workspace.worker _ g.proposed); goes = g.races }) in
    (b.0, omega (arith, a.1, b.1))

-- nothing came
pub worker_still : (old new : SerialValue) → Stays old new → new.workspace.worker ≡ old.workspace.worker
worker_still old new g = only (ap (λ (s : System). s.workers) g.system)

pub left_still : (old new : SerialValue) → Stays old new → left_to_do new ≡ left_to_do old
left_still old new g = ap (λ heap. Left heap new.collection (system_of new)) g.heap ∙ ap (λ c. Left old.heap c (system_of new)) g.collection ∙ ap (Left old.heap old.collection) g.system
  where
    Left : HeapValue → CollectionValue → System → ℕ
    Left heap c s = measure (setting_of heap.graph c.generation heap.config.shape heap.config.block_words 1) (young_names_of heap.graph c.generation) s

-- a scan after nothing
pub went_still_scan : (old between new : SerialValue) → IsReadyToCollect old.heap old.collection → HasStepped old → Stays old between → old.workspace.worker.proposal ≡ None → current_slot (setting_in between) between.workspace.worker ≡ None → between.workspace.worker.hand ≢ Nothing → Goes (Scan 0) between new
    → HasStepped new × (left_to_do new < left_to_do old)
went_still_scan old between new ready h s none no_slot hand g =
    let a = went_scan between new (ready_still old between s.heap s.collection ready) (none_more old between h s) (ap (λ (w : Worker). w.proposal) (worker_still old between s) ∙ none) no_slot hand g in
    let l = left_still old between s in
    (a.0, omega (arith, a.1, l))

-- the call's answer: something came, or nothing
pub stepped_or : {E : Type 0} (r : Result Bool E) (between new : SerialValue) → (r ≡ Ok true → HasStepped new) → (r ≡ Ok false → new ≡ between) → OnErr r (new ≡ between) → HasStepped between → HasStepped new
stepped_or (Ok true) between new some none err h = some refl
stepped_or (Ok false) between new some none err h = subst HasStepped (sym (none refl)) h
stepped_or (Err e) between new some none err h = subst HasStepped (sym err) h

pub went_or : (did : Bool) (between new : SerialValue) → (did ≡ true → HasStepped new) → (did ≡ false → new ≡ between) → HasStepped between → HasStepped new
went_or true between new some none h = some refl
went_or false between new some none h = subst HasStepped (sym (none refl)) h

pub stepped_on : {E : Type 0} (r : Result Bool E) (between new : SerialValue) → (r ≡ Ok true → GoesOn between new) → (r ≡ Ok false → IsDone between × (new ≡ between)) → OnErr r (Stays between new) → HasStepped between → HasStepped new
stepped_on (Ok true) between new some none err h = one_more between new h (some refl)
stepped_on (Ok false) between new some none err h = subst HasStepped (sym (none refl).1) h
stepped_on (Err e) between new some none err h = none_more between new h err

-- what the worker sees stays, and so does a slot that is left to a look
setting_still : (old new : SerialValue) → Stays old new → setting_in new ≡ setting_in old
setting_still old new g = ap (λ heap. Seen heap new.collection) g.heap ∙ ap (Seen old.heap) g.collection
  where
    Seen : HeapValue → CollectionValue → Setting
    Seen heap c = setting_of heap.graph c.generation heap.config.shape heap.config.block_words 1

pub is_left_still : (old new : SerialValue) → Stays old new → IsUncopied old → IsUncopied new
is_left_still old new g is =
    let seen = setting_still old new g in
    let same = worker_still old new g in
    record {
      name = is.name;
      slot = ap (λ s. current_slot s new.workspace.worker) seen ∙ ap (current_slot (setting_in old)) same ∙ is.slot;
      empty = ap (λ s. cell_of s (Some is.name)) g.system ∙ is.empty;
      wants = subst (λ s. WantsMore s new.workspace.worker is.name) (sym seen) (subst (λ w. WantsMore (setting_in old) w is.name) (sym same) is.wants);
    }

-- and what is left to `step`
pub left_to_step_still : (old new : SerialValue) → Stays old new → IsLeftToStep old → IsLeftToStep new
left_to_step_still old new g (inl proposed) = inl (ap (λ (w : Worker). is_some w.proposal) (worker_still old new g) ∙ proposed)
left_to_step_still old new g (inr (inl is)) = inr (inl (is_left_still old new g is))
left_to_step_still old new g (inr (inr none)) =
    let same = worker_still old new g in
    inr (inr (record {
      no_slot = ap (λ s. current_slot s new.workspace.worker) (setting_still old new g) ∙ ap (current_slot (setting_in old)) same ∙ none.no_slot;
      no_other = ap (λ (w : Worker). has_another w.hand) same ∙ none.no_other;
    }))

-- nothing came, and the scan is left to `step`
pub none_behind : {E : Type 0} (r : Result Bool E) (old between new : SerialValue) → Stays old between → current_slot (setting_in between) between.workspace.worker ≡ None → (r ≡ Ok false → new ≡ between) → IfOk r (λ some. some ≡ has_another between.workspace.worker.hand) → r ≡ Ok false
    → IsLeftToStep new × Stays old new
none_behind r old between new g no_slot same which is =
    subst (λ v. IsLeftToStep v × Stays old v) (sym (same is)) (inr (inr (record { no_slot = no_slot; no_other = sym (IfOk-at_ok (λ some. some ≡ has_another between.workspace.worker.hand) is which) })), g)

-- nothing came, and the scan is next
pub scan_refused : {E : Type 0} (r : Result Bool E) (old between new : SerialValue) → Stays old between → old.workspace.worker.proposal ≡ None → current_slot (setting_in between) between.workspace.worker ≡ None → between.workspace.worker.hand ≢ Nothing → OnErr r (new ≡ between)
    → OnErr r (ScansNext new × Stays old new)
scan_refused r old between new g none no_slot hand err =
    on_err_weaker r (λ (same : new ≡ between). subst (λ v. ScansNext v × Stays old v) (sym same) (record { no_proposal = ap (λ (w : Worker). w.proposal) (worker_still old between g) ∙ none; hand = hand; no_slot = no_slot }, g)) err
