-- What a worker brings back is what its thread promised.
use Rattle.std.proofs.Common.{◌≡◌, ◌≢◌, ℕ, true, false, None, List, Option, sym, ap, subst, ◌∙◌}
use Rattle.std.specs.Prelude.{IsSome}
use Rattle.idle_count.specs.VerdictValue.{VerdictSeatValue}
use Rattle.layout.specs.declared.place.Place.{Place}
use Rattle.block_pool.specs.ClaimsValue.{ClaimsValue, SeatValue, IsSeatOf}
use Rattle.steps.specs.HeapValue.{HeapValue}
use Rattle.steps.specs.CollectionValue.{CollectionValue, young_names}
use Rattle.pending_queues.specs.PendingValue.{Source}
use Rattle.pending_queues.specs.PendingValue.{SeatValue as QueueSeatValue}
use Rattle.pending_queues.specs.PendingValue.{IsSeatOf as IsQueueSeat}
use Rattle.scavenge.specs.Handed.{CopiesKeyValue}
use Rattle.workers.specs.Setting.{Setting}
use Rattle.workers.specs.WorkerSteps.{draw_wanted, CanLook}
use Rattle.scavenge.specs.Shown.{WorkspaceValue}
use Rattle.scavenge.specs.declared.looking.LookError.TheVariants.{HeapFull}
use Rattle.workers_in_threads.specs.declared.sharing_worker.resting.Outcome.{Outcome}
use Rattle.workers_in_threads.specs.declared.sharing_worker.resting.Outcome.TheVariants.{Ended, Left, Refused}
use Rattle.workers_in_threads.specs.SharingValue.{SharingValue, setting_for}
use Rattle.workers_in_threads.specs.IsSharing.{IsSharing, HasWorked}
use Rattle.workers_in_threads.specs.Sharing.{IsSame, IsDone, IsRefusedBlock}
use Rattle.workers_in_threads.specs.Kits.{IsBroughtBack}

module _ {C P A : Type 0} {fits : C → P → Type 0} {limit : C → ℕ} {known : P → ℕ → Option Place} {won : P → List (ℕ × Place)} {at_home : C → P → Type 0} (is_pass : ℕ → P → Type 0)
    (heap : HeapValue) (c : CollectionValue) (claims : ClaimsValue) (queues : Source A CopiesKeyValue) (n t : ℕ) (old new : SharingValue C P A) (k : IsSharing fits limit known won new) (same : IsSame at_home old new)
    (heap_is : old.heap ≡ heap) (collection_is : old.collection ≡ c) (claims_are : old.claims ≡ claims) (queues_are : old.queues ≡ queues) (workers_are : old.workers ≡ n) (number_is : old.seat.index ≡ t) where
  worked : HasWorked heap c n t (known new.pass) (won new.pass) new.draws new.seat new.workspace.worker
  worked =
      subst (λ h. HasWorked h c n t (known new.pass) (won new.pass) new.draws new.seat new.workspace.worker) (same.heap ∙ heap_is)
      (subst (λ d. HasWorked new.heap d n t (known new.pass) (won new.pass) new.draws new.seat new.workspace.worker) (same.collection ∙ collection_is)
      (subst (λ m. HasWorked new.heap new.collection m t (known new.pass) (won new.pass) new.draws new.seat new.workspace.worker) (same.workers ∙ workers_are)
      (subst (λ i. HasWorked new.heap new.collection new.workers i (known new.pass) (won new.pass) new.draws new.seat new.workspace.worker) (same.number ∙ number_is) k.worked)))

  at_heap : (Q : Setting → Type 0) → Q (setting_for new.heap new.collection new.workers) → Q (setting_for heap c n)
  at_heap Q q =
      subst (λ h. Q (setting_for h c n)) (same.heap ∙ heap_is)
      (subst (λ d. Q (setting_for new.heap d n)) (same.collection ∙ collection_is)
      (subst (λ m. Q (setting_for new.heap new.collection m)) (same.workers ∙ workers_are) q))

  pub brings : (outcome : Outcome) (pass : P) (draws : SeatValue) (seat : QueueSeatValue A CopiesKeyValue) (workspace : WorkspaceValue) (voice : VerdictSeatValue) → pass ≡ new.pass → draws ≡ new.draws → seat ≡ new.seat → workspace ≡ new.workspace
      → is_pass t new.pass → (outcome ≡ Ended → IsDone new) → (outcome ≡ Refused HeapFull → IsRefusedBlock new)
      → (outcome ≢ Ended → IsSome voice.known) → (outcome ≡ Ended → voice.won ≡ false) → (outcome ≡ Left → voice.won ≡ false)
      → IsBroughtBack is_pass known won heap c claims queues n t (record { outcome = outcome; pass = pass; draws = draws; seat = seat; workspace = workspace; voice = voice })
  brings outcome pass draws seat workspace voice p d s w mine ended full told quiet left =
      subst (λ x. IsBroughtBack is_pass known won heap c claims queues n t (record { outcome = outcome; pass = x; draws = draws; seat = seat; workspace = workspace; voice = voice })) (sym p)
      (subst (λ x. IsBroughtBack is_pass known won heap c claims queues n t (record { outcome = outcome; pass = new.pass; draws = x; seat = seat; workspace = workspace; voice = voice })) (sym d)
      (subst (λ x. IsBroughtBack is_pass known won heap c claims queues n t (record { outcome = outcome; pass = new.pass; draws = new.draws; seat = x; workspace = workspace; voice = voice })) (sym s)
      (subst (λ x. IsBroughtBack is_pass known won heap c claims queues n t (record { outcome = outcome; pass = new.pass; draws = new.draws; seat = new.seat; workspace = x; voice = voice })) (sym w)
      (record {
        pass = mine;
        draws = subst (λ (x : ClaimsValue). IsSeatOf x.source new.draws) (same.claims ∙ claims_are) k.draws;
        seat = subst (λ q. IsQueueSeat q new.seat) (same.queues ∙ queues_are) k.seat;
        thread = record { index = same.number ∙ number_is; config = k.config ∙ ap (λ (h : HeapValue). h.config) (same.heap ∙ heap_is); names = k.names ∙ ap (λ (h : HeapValue). young_names h.graph new.collection.generation) (same.heap ∙ heap_is) ∙ ap (λ (d : CollectionValue). young_names heap.graph d.generation) (same.collection ∙ collection_is); queued = k.queued; worked = worked };
        ended = λ e. record { out = (ended e).out; cleared = (ended e).cleared };
        can = λ e. at_heap (λ s. CanLook s new.workspace.worker) (full e).can;
        wanted = λ e. at_heap (λ s. draw_wanted s new.workspace.worker None ≡ true) (full e).wanted;
        out = λ e. (full e).out;
        told = told;
        quiet = quiet;
        left = left;
      }))))
