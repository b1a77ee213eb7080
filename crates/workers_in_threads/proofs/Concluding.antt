-- What the workers, who all ended, bring to the commit once draws and queues are closed.
use Rattle.std.proofs.Common.{◌≡◌, ℕ, ◌<◌, List, All, map, length, Option, None, nat_eq, Contains, sym, ap, subst, ◌∙◌}
use Rattle.std.specs.Prelude.{flat_map, slice_index_or, IsSome}
use Rattle.std.specs.List.{IsDistinct}
use Rattle.layout.specs.declared.place.Place.{Place}
use Rattle.block_pool.specs.BlockValue.{BlockValue}
use Rattle.block_pool.specs.ClaimsValue.{ClaimsValue, SeatValue, all_drawn}
use Rattle.forwarding.specs.Settled.{IsSettled}
use Rattle.pending_queues.specs.declared.exports.deliveries.Delivery.{Delivery}
use Rattle.pending_queues.specs.PendingValue.{Source, SeatValue as QueueSeatValue}
use Rattle.pending_queues.specs.Delivered.{AreDelivered}
use Rattle.model.specs.Live.{IsYoung}
use Rattle.workers.specs.Worker.{Worker}
use Rattle.steps.specs.HeapValue.{HeapValue}
use Rattle.steps.specs.CollectionValue.{CollectionValue}
use Rattle.steps.specs.ReportValue.{WorkerLists, all_won}
use Rattle.scavenge.specs.Handed.{CopiesKeyValue}
use Rattle.scavenge.specs.Shown.{WorkspaceValue}
use Rattle.settling.specs.Shown.{AreShown}
use Rattle.settling.specs.Telling.{AreBrought, all_deliveries}
use Rattle.workers_in_threads.specs.declared.sharing_worker.resting.Outcome.{Outcome}
use Rattle.workers_in_threads.specs.declared.sharing_worker.resting.Outcome.TheVariants.{Ended}
use Rattle.workers_in_threads.specs.Threads.{Gathered}
use Rattle.workers_in_threads.specs.Reported.{Reported}
use Rattle.workers_in_threads.specs.CameBack.{CameBack}
use Rattle.steps.specs.SettledValue.{IsSettled as MayCommit}
use Rattle.settling.specs.Collects.{ScansOnce}
use Rattle.workers_in_threads.specs.Reports.{ReportsApart}
use Rattle.workers_in_threads.proofs.Back.{gathered, reported, workers_are}
use Rattle.workers_in_threads.proofs.Settled.{threads_settle, threads_young, threads_won_once, threads_scanned_once}
use Rattle.workers_in_threads.proofs.Told.{each_taken, reports_apart}

module _ {P A : Type 0} (is_pass : ℕ → P → Type 0) (known : P → ℕ → Option Place) (won : P → List (ℕ × Place)) (heap : HeapValue) (c : CollectionValue) (n : ℕ) (ending : Outcome) (passes : List P) (claims : ClaimsValue) (queues : Source A CopiesKeyValue)
    (draws : List SeatValue) (seats : List (QueueSeatValue A CopiesKeyValue)) (workspaces : List WorkspaceValue) (k : CameBack is_pass known won heap c n ending passes claims queues draws seats workspaces)
    (all_ended : ending ≡ Ended) (some : 0 < n) (once : IsDistinct nat_eq (all_drawn draws)) (members : All (Contains claims.source.free) (all_drawn draws)) (places : List (Option Place))
    (settled : IsSettled known won passes c.cells (λ number. slice_index_or places number None)) (lists : List (List Delivery)) (told : AreDelivered seats lists) where
  abbrev all : Gathered P A known won
  all = gathered is_pass known won heap c n ending passes claims queues draws seats workspaces k all_ended some once members places settled lists told

  -- each export was taken
  pub all_taken : All (λ (ds : List Delivery). All (λ (d : Delivery). IsSome d.taker) ds) lists
  all_taken = each_taken all

  -- the large objects that were scanned are numbered
  pub all_young : (reports : List WorkerLists) (blocks : List BlockValue) (large : List ℕ) → AreBrought heap c (map (λ (w : WorkspaceValue). w.worker) workspaces) reports blocks large → All (IsYoung heap.graph c.generation) large
  all_young reports blocks large b =
      subst (All (IsYoung heap.graph c.generation)) (sym (b.large_are ∙ ap (flat_map (λ (w : Worker). w.large_done)) (workers_are is_pass known won heap c n ending passes claims queues draws seats workspaces k)))
      (threads_young all)

  module _ (reports : List WorkerLists) (blocks : List BlockValue) (large : List ℕ) (shown : List (Option Place)) (b : AreBrought heap c (map (λ (w : WorkspaceValue). w.worker) workspaces) reports blocks large) (many : length shown ≡ c.cells)
      (shows : AreShown heap c large places shown) where
    abbrev told_all : Reported all reports blocks shown
    told_all = reported is_pass known won heap c n ending passes claims queues draws seats workspaces k all_ended some once members places settled lists told reports blocks large shown b many shows

    pub settles : MayCommit heap c shown blocks (all_won reports)
    settles = threads_settle all reports blocks shown told_all

    pub scans_once : ScansOnce heap c.generation reports
    scans_once = record { won_once = threads_won_once all reports blocks shown told_all; scanned_once = threads_scanned_once all reports blocks shown told_all }

    pub apart : ReportsApart heap c.generation n reports (all_deliveries lists)
    apart = reports_apart all reports blocks shown told_all
