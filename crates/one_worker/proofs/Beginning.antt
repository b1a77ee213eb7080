-- A collection by one worker before its first event.
use Rattle.std.proofs.Common.{◌≡◌, ℕ, zero, suc, ◌≤◌, List, [], ◌∷◌, length, map, replicate, Some, None, refl, sym, ap, subst, ◌∙◌, arith}
use Rattle.std.specs.Prelude.{slice_get}
use Rattle.std.specs.Ordering.{nat_cmp}
use Rattle.std.specs.FinMap.{find}
use Rattle.layout.specs.Place.{IsLargeAt}
use Rattle.block_pool.specs.BlockValue.{BlockValue}
use Rattle.block_pool.specs.ClaimsValue.{SeatValue, unused}
use Rattle.forwarding.specs.Plain.{IsFit, place_held, empty_cells}
use Rattle.forwarding.specs.Plain.{PlainValue as PlainCellsValue}
use Rattle.pending_queues.specs.PlainValue.{PlainLane, empty_lane, lane_at, new_pending}
use Rattle.pending_queues.specs.PlainValue.{PlainValue as PlainQueuesValue}
use Rattle.steps.specs.HeapValue.{HeapValue}
use Rattle.steps.specs.CollectionValue.{CollectionValue, target_of_slot, young_names}
use Rattle.model.specs.Destination.{dest_count}
use Rattle.scavenge.specs.Handed.{CopiesKeyValue}
use Rattle.workers.specs.System.{System, opening, opening_worker}
use Rattle.workers.specs.Worker.{Worker}
use Rattle.workers.specs.WorkerRun.{WorkerRun, stay, no_history}
use Rattle.scavenge.specs.Named.{named}
use Rattle.scavenge.specs.Slots.{cell_of}
use Rattle.one_worker.specs.SerialValue.{SerialValue, lane_of, positions_below, system_of, setting_in, targets_in, destinations_in}
use Rattle.scavenge.specs.Waiting.{waiting_in, left_of}
use Rattle.one_worker.specs.IsSerial.{IsSerial}
use Rattle.scavenge.specs.ReadyToCollect.{IsReadyToCollect}

none_held : (count number : ℕ) → place_held (replicate count None) number ≡ None
none_held zero number = refl
none_held (suc count) zero = refl
none_held (suc count) (suc number) = none_held count number

length-nones : {X : Type 0} (count : ℕ) (x : X) → length (replicate count x) ≡ count
length-nones zero x = refl
length-nones (suc count) x = ap suc (length-nones count x)

abbrev pub key_of : HeapValue → ℕ → CopiesKeyValue
key_of heap generation = record { heap = heap; generation = generation }

abbrev pub names_of : HeapValue → CollectionValue → List ℕ
names_of heap c = young_names heap.graph c.generation

abbrev pub first_of : HeapValue → CollectionValue → Worker
first_of heap c = opening_worker (dest_count heap.config.shape c.generation) 1 (map target_of_slot c.slots) 0

-- nothing is won, drawn or queued
pub begun : (v : SerialValue) → IsReadyToCollect v.heap v.collection → v.cells ≡ empty_cells v.collection.cells 1 → IsFit v.cells v.pass → v.claims.source.free ≡ v.heap.free → v.claims.source.seats ≡ 1 → v.draws ≡ unused v.claims.source
    → v.queues ≡ new_pending (record { heap = v.heap; generation = v.collection.generation }) 1 → v.seat ≡ 0 → v.workspace.config ≡ v.heap.config → v.workspace.names ≡ young_names v.heap.graph v.collection.generation → IsLargeAt v.workspace.claim 0 → v.workspace.worker ≡ opening_worker (destinations_in v) 1 (targets_in v) 0 → IsSerial v
begun v ready cells fit free seats draws queues seat config names claim worker =
    record {
      ready = ready;
      config = config;
      names = names;
      claim = claim;
      cells = record {
        fits = fit;
        passes = ap (λ (x : PlainCellsValue). x.passes) cells;
        count = ap (λ (x : PlainCellsValue). length x.held) cells ∙ length-nones v.collection.cells None;
        shown = λ name number of. ap (λ (x : PlainCellsValue). cell_of (setting_in v) (Some name) (place_held x.held number)) cells ∙ ap (cell_of (setting_in v) (Some name)) (none_held v.collection.cells number) ∙ ap (λ (w : Worker). find nat_cmp name w.won) (sym worker);
      };
      draws = record { free = free; seats = seats; seat = ap (λ (s : SeatValue). s.source) draws };
      queue = record {
        key = ap (λ (q : PlainQueuesValue CopiesKeyValue). q.key) queues;
        lanes = ap (λ (q : PlainQueuesValue CopiesKeyValue). length q.lanes) queues;
        seat = seat;
        taken = subst (λ (lane : PlainLane). length lane.takers ≤ length lane.sent) (sym lane) (omega arith);
        labels = subst (λ (x : PlainLane). (position : ℕ) (block : BlockValue) → slice_get x.sent position ≡ Some block → block.sent ≡ Some (0, position)) (sym lane) (λ position block e. absurd (cc));
        noted = subst (λ (x : PlainLane). (position : ℕ) (block : BlockValue) → slice_get x.sent position ≡ Some block → length block.origins ≡ length block.objects) (sym lane) (λ position block e. absurd (cc));
      };
      worked = record { history = no_history; run = subst (λ w. WorkerRun (setting_in v) (opening_worker (destinations_in v) 1 (targets_in v) 0) w no_history) (sym worker) stay; taken = tt };
    }
  where
    lane : lane_of v ≡ empty_lane
    lane = ap (λ (q : PlainQueuesValue CopiesKeyValue). lane_at q 0) queues

pub first_system : (v : SerialValue) → v.claims.source.free ≡ v.heap.free → v.draws ≡ unused v.claims.source
    → v.queues ≡ new_pending (record { heap = v.heap; generation = v.collection.generation }) 1 → v.workspace.worker ≡ opening_worker (destinations_in v) 1 (targets_in v) 0 → system_of v ≡ opening (destinations_in v) 1 (targets_in v) v.heap.free
first_system v free draws queues worker =
    ap (λ (w : Worker). (let s : System = record (system_of v) { forwarded = w.won; workers = w ∷ [] } in s)) worker
    ∙ ap (λ ns. (let s : System = record (opened v) { free = left_of v.claims.source.free ns; queues = map (named v.workspace.config.shape) (waiting_in (lane_of v)) ∷ []; exported = map (named v.workspace.config.shape) (lane_of v).sent ∷ []; taken = positions_below (length (lane_of v).takers) ∷ [] } in s)) (ap (λ (s : SeatValue). s.drawn) draws)
    ∙ ap (λ ns. (let s : System = record (opened v) { free = ns; queues = map (named v.workspace.config.shape) (waiting_in (lane_of v)) ∷ []; exported = map (named v.workspace.config.shape) (lane_of v).sent ∷ []; taken = positions_below (length (lane_of v).takers) ∷ [] } in s)) free
    ∙ ap (λ (lane : PlainLane). (let s : System = record (opened v) { queues = map (named v.workspace.config.shape) (waiting_in lane) ∷ []; exported = map (named v.workspace.config.shape) lane.sent ∷ []; taken = positions_below (length lane.takers) ∷ [] } in s)) lane
  where
    opened : SerialValue → System
    opened v = opening (destinations_in v) 1 (targets_in v) v.heap.free

    lane : lane_of v ≡ empty_lane
    lane = ap (λ (q : PlainQueuesValue CopiesKeyValue). lane_at q 0) queues
