-- What the worker's calls may rely on.
use Rattle.std.proofs.Common.{◌≡◌, ℕ, ◌<◌, ◌≤◌, [], List, length, map, Option, Some, None, refl, sym, subst, arith, All}
use Rattle.std.specs.Prelude.{IsSome}
use Rattle.std.specs.Option.{option_map_or}
use Rattle.model.specs.Graph.{Object, object_at}
use Rattle.model.specs.Live.{IsYoung}
use Rattle.model.specs.Destination.{dest_count}
use Rattle.layout.specs.declared.place.Place.{Place}
use Rattle.block_pool.specs.ClaimsValue.{SeatValue}
use Rattle.steps.specs.HeapValue.{HeapValue}
use Rattle.steps.specs.CollectionValue.{CollectionValue, target_of_slot}
use Rattle.heap.proofs.SoundHeap.{heap_fields}
use Rattle.pending_queues.specs.PendingValue.{SeatValue as QueueSeatValue}
use Rattle.scavenge.specs.Handed.{CopiesKeyValue}
use Rattle.workers.specs.Setting.{old_pointers}
use Rattle.workers.specs.Worker.{Worker}
use Rattle.workers.specs.Joined.{Each, Roomy}
use Rattle.model.specs.Collected.{IsLiveOrOlder}
use Rattle.workers.specs.Ready.{IsReady, IsHanded, CanFinish, IsUntouched}
use Rattle.workers.specs.WorkerRun.{proposed_name}
use Rattle.workers.proofs.Starts.{opens, opens_roomy, opening_each}
use Rattle.workers.proofs.ReadyRuns.{run_ready, exports_handed}
use Rattle.workers.proofs.ReadyLemmas.{few_fields}
use Rattle.workers.proofs.Kept.{collected-young}
use Rattle.workers.proofs.SystemFalls.{Sound, run_sound}
use Rattle.scavenge.specs.Shown.{name_of}
use Rattle.scavenge.specs.Slots.{seen}
use Rattle.steps.specs.NamesArePlaces.{NamesArePlaces}
use Rattle.heap.proofs.SoundHeap.{heap_closed, heap_places}
use Rattle.workers.specs.WorkerSteps.{CanLook, current_slot}
use Rattle.scavenge.specs.ReadyToCollect.{IsReadyToCollect}
use Rattle.scavenge.specs.MayStep.{IsOpenFor, MayLook, MayRace, AreThere}
use Rattle.scavenge.proofs.Destinations.{destination_below, numbers_below}
use Rattle.scavenge.proofs.Unchanged.{some_there}
use Rattle.scavenge.proofs.Starts.{targets_live}
use Rattle.scavenge.proofs.StartSlots.{starts_there}
use Rattle.workers_in_threads.specs.SharingValue.{SharingValue, setting_for, setting_in, worker_of, begins}
use Rattle.workers_in_threads.specs.IsSharing.{IsSharing, HasWorked}

module _ (heap : HeapValue) (c : CollectionValue) (ready : IsReadyToCollect heap c) (n : ℕ) where
  abbrev destinations : ℕ
  destinations = dest_count heap.config.shape c.generation

  pub start_roomy : (t : ℕ) → Roomy (setting_for heap c n) (begins heap c n t)
  start_roomy t = opens_roomy (setting_for heap c n) destinations n (map target_of_slot c.slots) t (λ name is. destination_below heap c ready n name is)

  pub start_live : (t : ℕ) → Each (IsLiveOrOlder heap.graph c.generation) (begins heap c n t).starts
  start_live t = (opening_each (setting_for heap c n) (IsLiveOrOlder heap.graph c.generation) destinations n (map target_of_slot c.slots) (targets_live heap c ready) t 1).0

  module _ {A : Type 0} (t : ℕ) (known : ℕ → Option Place) (won : List (ℕ × Place)) (draws : SeatValue) (seat : QueueSeatValue A CopiesKeyValue) (worker : Worker) (k : HasWorked heap c n t known won draws seat worker) where
    pub ready_of : IsReady (setting_for heap c n) worker
    ready_of =
        run_ready heap.graph c.generation heap.config.shape heap.config.block_words n
        (begins heap c n t) worker k.history (opens destinations n _ t) (start_roomy t) k.handed k.run

    -- what every worker of a run has
    pub sound_of : Sound (setting_for heap c n) worker
    sound_of = run_sound (setting_for heap c n) (begins heap c n t) worker k.history (opens destinations n _ t) (start_roomy t) k.run

    pub few_of : worker.fields < 4294967296
    few_of =
        let l : worker.fields ≤ 100000 = few_fields (setting_for heap c n) worker ready_of 100000 few in
        omega arith
      where
        few : (name : ℕ) → length (old_pointers (setting_for heap c n) name) ≤ 100000
        few name = go (object_at heap.graph name) refl
          where
            go : (o : Option Object) → object_at heap.graph name ≡ o → length (option_map_or (λ (x : Object). x.pointers) o []) ≤ 100000
            go None e = omega arith
            go (Some o) e = heap_fields heap ready.sound name o e

    -- what is proposed is young
    pub young_of : IsSome worker.proposal → IsYoung heap.graph c.generation (name_of worker.proposal)
    young_of some =
        let p = some_there worker.proposal some in
        subst (λ o. IsYoung heap.graph c.generation (name_of o)) (sym p.1)
        (collected-young heap.graph c.generation heap.config.shape heap.config.block_words n (proposed_name p.0) (ready_of.young p.0 p.1))

    -- what is aside is as workers hand it on
    pub aside_handed : Each (IsHanded heap.graph c.generation heap.config.shape heap.config.block_words n) worker.aside
    aside_handed =
        (exports_handed heap.graph c.generation heap.config.shape heap.config.block_words n (begins heap c n t) worker k.history
        (opens destinations n _ t) (start_roomy t) (start_live t) k.handed k.run).0

-- the same of a worker as its calls see it
module _ {C P A : Type 0} {fits : C → P → Type 0} {limit : C → ℕ} {known : P → ℕ → Option Place} {won : P → List (ℕ × Place)} (v : SharingValue C P A) (k : IsSharing fits limit known won v) where
  pub ready_in : IsReady (setting_in v) (worker_of v)
  ready_in = ready_of v.heap v.collection k.ready v.workers v.seat.index (known v.pass) (won v.pass) v.draws v.seat (worker_of v) k.worked

  pub few_in : (worker_of v).fields < 4294967296
  few_in = few_of v.heap v.collection k.ready v.workers v.seat.index (known v.pass) (won v.pass) v.draws v.seat (worker_of v) k.worked

  pub young_in : IsSome (worker_of v).proposal → IsYoung v.heap.graph v.collection.generation (name_of (worker_of v).proposal)
  young_in = young_of v.heap v.collection k.ready v.workers v.seat.index (known v.pass) (won v.pass) v.draws v.seat (worker_of v) k.worked

  pub places_in : NamesArePlaces v.heap.graph
  places_in = heap_places v.heap k.ready.sound

  pub untouched_in : IsUntouched (seen v.heap v.collection) (worker_of v)
  untouched_in = ready_in.untouched

  pub rooms_in : Roomy (seen v.heap v.collection) (worker_of v)
  rooms_in = ready_in.room

  pub numbers_in : All (λ number. number < 65535) v.claims.source.free
  numbers_in = numbers_below v.heap v.collection k.ready v.claims.source.free k.free

  pub can_look : (worker_of v).proposal ≡ None → IsSome (current_slot (seen v.heap v.collection) (worker_of v)) → CanLook (setting_in v) (worker_of v)
  can_look none some = record { no_proposal = none; slot = some }

  pub slot_in : (worker_of v).proposal ≡ None → IsSome (current_slot (seen v.heap v.collection) (worker_of v)) → CanFinish (worker_of v) (worker_of v).starts
  slot_in none some = ready_in.look (can_look none some)

  -- what a look and a race ask of it
  pub open_in : IsOpenFor v.heap v.collection v.workspace
  open_in = record { opened = k.ready.opened; closed = heap_closed v.heap k.ready.sound; places = places_in; config = k.config }

  pub may_look_in : v.workspace.worker.proposal ≡ None → MayLook v.heap v.collection v.workspace
  may_look_in none = record { proposal = none; slot = slot_in none; few = few_in; untouched = untouched_in }

  pub starts_in : AreThere v.heap v.workspace.worker.starts
  starts_in = starts_there v.heap v.collection k.ready (dest_count v.heap.config.shape v.collection.generation) v.workers v.seat.index v.workspace.worker k.worked.history k.worked.run k.worked.handed

  pub may_race_in : IsSome v.workspace.worker.proposal → MayRace v.workspace
  may_race_in some = record { proposal = some; slot = ready_in.race some; few = few_in }
