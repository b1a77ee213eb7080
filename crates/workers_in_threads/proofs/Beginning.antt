-- A worker among several before its first step.
use Rattle.std.proofs.Common.{◌≡◌, ℕ, ◌<◌, ◌≤◌, List, [], All, Option, map, length, sym, ap, subst}
use Rattle.std.proofs.lemmas.List.Elements.{All-nil}
use Rattle.layout.specs.declared.place.Place.{Place}
use Rattle.block_pool.specs.ClaimsValue.{SeatValue, unused}
use Rattle.pending_queues.specs.PendingValue.{new_seat}
use Rattle.pending_queues.specs.PendingValue.{SeatValue as QueueSeatValue}
use Rattle.scavenge.specs.Handed.{CopiesKeyValue}
use Rattle.steps.specs.CollectionValue.{young_names}
use Rattle.workers.specs.WorkerRun.{stay, no_history}
use Rattle.scavenge.specs.Named.{named}
use Rattle.scavenge.specs.ReadyToCollect.{IsReadyToCollect}
use Rattle.workers_in_threads.specs.SharingValue.{SharingValue, begins, worker_of, forwarded_in}
use Rattle.workers_in_threads.specs.Queued.{IsQueued}
use Rattle.workers_in_threads.specs.IsSharing.{IsSharing, HasWorked}

module _ {C P A : Type 0} (fits : C → P → Type 0) (limit : C → ℕ) (known : P → ℕ → Option Place) (won : P → List (ℕ × Place)) (v : SharingValue C P A) where
  pub begun : IsReadyToCollect v.heap v.collection → v.seat.index < v.workers → v.workspace.config ≡ v.heap.config → v.workspace.names ≡ young_names v.heap.graph v.collection.generation → fits v.cells v.pass → v.collection.cells ≤ limit v.cells → won v.pass ≡ [] → v.claims.source.free ≡ v.heap.free → v.draws ≡ unused v.claims.source
      → v.seat ≡ new_seat v.queues v.seat.index → length v.queues.lanes ≡ v.workers → v.queues.key ≡ record { heap = v.heap; generation = v.collection.generation } → worker_of v ≡ begins v.heap v.collection v.workers v.seat.index → IsSharing fits limit known won v
  begun ready member config names pass cells none free draws seat lanes key worker =
      record {
        ready = ready;
        member = member;
        config = config;
        names = names;
        fits_cells = pass;
        cells = cells;
        free = free;
        draws = ap (λ (s : SeatValue). s.source) draws;
        seat = record { of = ap (λ (s : QueueSeatValue A CopiesKeyValue). s.source) seat; own = subst (λ n. v.seat.index < n) (sym lanes) member };
        lanes = lanes;
        key = key;
        queued = subst IsQueued (sym seat) (record { noted = tt; rises = λ u. tt });
        worked =
            subst (HasWorked v.heap v.collection v.workers v.seat.index (known v.pass) (won v.pass) v.draws v.seat) (sym worker)
            (record {
              history = no_history;
              run = stay;
              turns = tt;
              handed = tt;
              knows = tt;
              won_are = ap (forwarded_in v.heap v.collection) none;
              numbers = subst (All (λ e. e.0 < v.collection.cells)) (sym none) (All-nil (λ (e : ℕ × Place). e.0 < v.collection.cells));
              drawn = ap (λ (s : SeatValue). s.drawn) draws;
              exported = ap (λ (s : QueueSeatValue A CopiesKeyValue). map (named v.heap.config.shape) s.sent) seat;
              taken = ap (λ (s : QueueSeatValue A CopiesKeyValue). map (named v.heap.config.shape) s.taken) seat;
            });
      }
