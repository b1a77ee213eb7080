-- What the lists say that workers brought back.
use Rattle.std.proofs.Common.{◌≡◌, ℕ, ◌<◌, List, [], ◌∷◌, All, map, length, Option, None, refl, sym, ap, subst, ◌∙◌, nat_eq, Contains}
use Rattle.std.proofs.lemmas.List.Elements.{All-nil, All-cons}
use Rattle.std.specs.Prelude.{slice_index_or}
use Rattle.std.specs.List.{IsDistinct}
use Rattle.layout.specs.declared.place.Place.{Place}
use Rattle.block_pool.specs.BlockValue.{BlockValue}
use Rattle.block_pool.specs.ClaimsValue.{ClaimsValue, SeatValue, IsSeatOf, all_drawn}
use Rattle.forwarding.specs.Passes.{AtEach}
use Rattle.forwarding.specs.Settled.{IsSettled}
use Rattle.pending_queues.specs.declared.exports.deliveries.Delivery.{Delivery}
use Rattle.pending_queues.specs.PendingValue.{Source}
use Rattle.pending_queues.specs.PendingValue.{SeatValue as QueueSeatValue}
use Rattle.pending_queues.specs.PendingValue.{IsSeatOf as IsQueueSeat}
use Rattle.pending_queues.specs.Delivered.{AreDelivered}
use Rattle.steps.specs.HeapValue.{HeapValue}
use Rattle.steps.specs.CollectionValue.{CollectionValue}
use Rattle.steps.specs.ReportValue.{WorkerLists}
use Rattle.workers.specs.Joined.{Each}
use Rattle.scavenge.specs.Handed.{CopiesKeyValue}
use Rattle.scavenge.specs.Shown.{WorkspaceValue}
use Rattle.settling.specs.Shown.{AreShown}
use Rattle.settling.specs.Telling.{IsAtRest, AreBrought}
use Rattle.settling.proofs.EndedLists.{each_place}
use Rattle.workers_in_threads.specs.declared.kit.Brought.{Brought}
use Rattle.workers_in_threads.specs.declared.sharing_worker.resting.Outcome.{Outcome}
use Rattle.workers_in_threads.specs.declared.sharing_worker.resting.Outcome.TheVariants.{Ended}
use Rattle.workers_in_threads.specs.Threads.{ThreadValue, IsThread, AreThreads, HasEnded, Gathered, passes_of, draws_of, seats_of}
use Rattle.workers_in_threads.specs.Kits.{IsBroughtBack, thread_of}
use Rattle.workers_in_threads.specs.Reported.{Reported, workers_of}
use Rattle.workers_in_threads.specs.CameBack.{CameBack}
use Rattle.workers_in_threads.proofs.Lists.{each_map, each_and, length-map}
use Rattle.workers_in_threads.proofs.EachThread.{are_threads, have_ended}

pub each_all : {X : Type 0} (F : X → Type 0) (xs : List X) → Each F xs → All F xs
each_all F [] h = All-nil F
each_all F (x ∷ xs) h = All-cons F x xs h.0 (each_all F xs h.1)

-- what holds of each wherever it stands
pub each_of : {X : Type 0} (F : ℕ → X → Type 0) (G : X → Type 0) → ((i : ℕ) (x : X) → F i x → G x) → (xs : List X) → AtEach F xs → Each G xs
each_of F G f xs h = each_place G xs (λ i x e. f i x (h i x e))

-- a map after a map
fused : {X Y Z : Type 0} (f : X → Y) (g : Y → Z) (xs : List X) → map (λ x. g (f x)) xs ≡ map g (map f xs)
fused f g [] = refl
fused f g (x ∷ xs) = ap (λ ys. g (f x) ∷ ys) (fused f g xs)

module _ {P A : Type 0} (is_pass : ℕ → P → Type 0) (known : P → ℕ → Option Place) (won : P → List (ℕ × Place)) (heap : HeapValue) (c : CollectionValue) (n : ℕ) (ending : Outcome) (passes : List P) (claims : ClaimsValue) (queues : Source A CopiesKeyValue)
    (draws : List SeatValue) (seats : List (QueueSeatValue A CopiesKeyValue)) (workspaces : List WorkspaceValue) (k : CameBack is_pass known won heap c n ending passes claims queues draws seats workspaces) where
  abbrev pub threads : List (ThreadValue P A)
  threads = map thread_of k.brought

  pub are : AreThreads known won heap c n 0 threads
  are = are_threads is_pass known won heap c claims queues n k.brought k.each

  pub count : length threads ≡ n
  count = length-map thread_of k.brought ∙ k.count

  pub passes_are : passes ≡ passes_of threads
  passes_are = k.lists.passes_are ∙ fused thread_of (λ (r : ThreadValue P A). r.pass) k.brought

  pub draws_are : draws ≡ draws_of threads
  draws_are = k.lists.draws_are ∙ fused thread_of (λ (r : ThreadValue P A). r.draws) k.brought

  pub seats_are : seats ≡ seats_of threads
  seats_are = k.lists.seats_are ∙ fused thread_of (λ (r : ThreadValue P A). r.seat) k.brought

  pub workers_are : map (λ (w : WorkspaceValue). w.worker) workspaces ≡ workers_of threads
  workers_are =
      ap (map (λ (w : WorkspaceValue). w.worker)) k.lists.workspaces_are
      ∙ sym (fused (λ (r : Brought P A). r.workspace) (λ (w : WorkspaceValue). w.worker) k.brought)
      ∙ fused thread_of (λ (r : ThreadValue P A). r.workspace.worker) k.brought

  -- what closing the draws and the queues asks for
  pub draws_here : All (IsSeatOf claims.source) draws
  draws_here =
      subst (All (IsSeatOf claims.source)) (sym k.lists.draws_are)
      (each_all (IsSeatOf claims.source) (map (λ (r : Brought P A). r.draws) k.brought)
      (each_map (λ (r : Brought P A). r.draws) (IsSeatOf claims.source) k.brought
      (each_of (IsBroughtBack is_pass known won heap c claims queues n) (λ (r : Brought P A). IsSeatOf claims.source r.draws) (λ i r b. b.draws) k.brought k.each)))

  pub draws_count : length draws ≡ claims.source.seats
  draws_count = ap length k.lists.draws_are ∙ length-map (λ (r : Brought P A). r.draws) k.brought ∙ k.count ∙ sym k.shares

  pub seats_here : All (IsQueueSeat queues) seats
  seats_here =
      subst (All (IsQueueSeat queues)) (sym k.lists.seats_are)
      (each_all (IsQueueSeat queues) (map (λ (r : Brought P A). r.seat) k.brought)
      (each_map (λ (r : Brought P A). r.seat) (IsQueueSeat queues) k.brought
      (each_of (IsBroughtBack is_pass known won heap c claims queues n) (λ (r : Brought P A). IsQueueSeat queues r.seat) (λ i r b. b.seat) k.brought k.each)))

  pub seats_count : length seats ≡ length queues.lanes
  seats_count = ap length k.lists.seats_are ∙ length-map (λ (r : Brought P A). r.seat) k.brought ∙ k.count ∙ sym k.lanes

  pub workspaces_count : length workspaces ≡ n
  workspaces_count = ap length k.lists.workspaces_are ∙ length-map (λ (r : Brought P A). r.workspace) k.brought ∙ k.count

  module _ (all_ended : ending ≡ Ended) where
    ended_each : Each (λ (r : Brought P A). r.outcome ≡ Ended) k.brought
    ended_each = k.lists.ended all_ended

    pub ended : Each HasEnded threads
    ended = have_ended is_pass known won heap c claims queues n k.brought k.each ended_each

    rest_of : (r : Brought P A) → ((t : ℕ) × IsThread known won heap c n t (thread_of r)) → HasEnded (thread_of r) → IsAtRest heap c r.workspace
    rest_of r t e =
        record {
          config = t.1.config;
          names = t.1.names;
          no_proposal = e.out.free.no_proposal;
        }

    -- what taking the workers apart asks for
    pub at_rest : Each (IsAtRest heap c) workspaces
    at_rest =
        subst (Each (IsAtRest heap c)) (sym k.lists.workspaces_are)
        (each_map (λ (r : Brought P A). r.workspace) (IsAtRest heap c) k.brought
        (each_and (λ (r : Brought P A). (t : ℕ) × IsThread known won heap c n t (thread_of r)) (λ (r : Brought P A). HasEnded (thread_of r)) (λ (r : Brought P A). IsAtRest heap c r.workspace) rest_of k.brought
        (each_of (IsBroughtBack is_pass known won heap c claims queues n) (λ (r : Brought P A). (t : ℕ) × IsThread known won heap c n t (thread_of r)) (λ i r b. (i, b.thread)) k.brought k.each)
        (ended_brought k.brought k.each ended_each)))
      where
        ended_brought : (rs : List (Brought P A)) → AtEach (IsBroughtBack is_pass known won heap c claims queues n) rs → Each (λ (r : Brought P A). r.outcome ≡ Ended) rs → Each (λ (r : Brought P A). HasEnded (thread_of r)) rs
        ended_brought rs h e =
            each_and (λ (r : Brought P A). r.outcome ≡ Ended → HasEnded (thread_of r)) (λ (r : Brought P A). r.outcome ≡ Ended) (λ (r : Brought P A). HasEnded (thread_of r)) (λ r f o. f o) rs
            (each_of (IsBroughtBack is_pass known won heap c claims queues n) (λ (r : Brought P A). r.outcome ≡ Ended → HasEnded (thread_of r)) (λ i r b. b.ended) rs h) e

    -- once draws and queues are closed
    module _ (some : 0 < n) (once : IsDistinct nat_eq (all_drawn draws)) (members : All (Contains claims.source.free) (all_drawn draws)) (places : List (Option Place))
        (settled : IsSettled known won passes c.cells (λ number. slice_index_or places number None)) (lists : List (List Delivery)) (told : AreDelivered seats lists) where
      abbrev pub gathered : Gathered P A known won
      gathered =
          record {
            heap = heap;
            collection = c;
            workers = n;
            threads = threads;
            places = places;
            lists = lists;
            ready = k.ready;
            some = some;
            count = count;
            each = are;
            ended = ended;
            drawn_once = subst (λ d. IsDistinct nat_eq (all_drawn d)) draws_are once;
            drawn_free = subst (λ d. All (Contains heap.free) (all_drawn d)) draws_are (subst (λ f. All (Contains f) (all_drawn draws)) k.free members);
            settled = subst (λ ps. IsSettled known won ps c.cells (λ number. slice_index_or places number None)) passes_are settled;
            delivered = subst (λ ss. AreDelivered ss lists) seats_are told;
          }

      pub reported : (reports : List WorkerLists) (blocks : List BlockValue) (large : List ℕ) (shown : List (Option Place)) → AreBrought heap c (map (λ (w : WorkspaceValue). w.worker) workspaces) reports blocks large → length shown ≡ c.cells
          → AreShown heap c large places shown → Reported gathered reports blocks shown
      reported reports blocks large shown b many shows =
          let w : AreBrought heap c (workers_of threads) reports blocks large = subst (λ ws. AreBrought heap c ws reports blocks large) workers_are b in
          record {
            won_are = w.reported.won;
            scanned_are = w.reported.scanned;
            numbers = w.numbers;
            left = w.left;
            whole = w.whole;
            count = many;
            shown = subst (λ ns. AreShown heap c ns places shown) w.large_are shows;
          }
