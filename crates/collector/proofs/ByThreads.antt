-- What workers on threads of their own brought back, as their cells settle it.
use Rattle.std.proofs.Common.{◌≡◌, ◌≢◌, ℕ, zero, suc, ◌+◌, ◌≤◌, Bool, true, false, List, [], ◌∷◌, ◌||◌, All, map, length, Option, Some, None, Result, Ok, Err, refl, sym, ap, subst, ◌∙◌, arith, inl}
use Rattle.std.proofs.lemmas.Option.{slice_get-get_or}
use Rattle.std.specs.Prelude.{slice_get, slice_index_or, sum_by, AllPairs, IfOk}
use Rattle.std.specs.List.{list_any}
use Rattle.model.specs.LiveCount.{LiveCount}
use Rattle.layout.specs.declared.place.Place.{Place}
use Rattle.block_pool.specs.ClaimsValue.{ClaimsValue, SeatValue, all_drawn, any_out}
use Rattle.forwarding.specs.Noted.{NotedValue, IsApart}
use Rattle.forwarding.specs.Passes.{AtEach, IsBoxPass}
use Rattle.forwarding.specs.Settled.{IsSettled, all_pairs, wins_of, ones}
use Rattle.forwarding.specs.declared.cells.forwards.SettleError.{SettleError}
use Rattle.forwarding.specs.declared.cells.forwards.SettleError.TheVariants.{NoMemory, Unsettled}
use Rattle.pending_queues.specs.PendingValue.{Source}
use Rattle.pending_queues.specs.PendingValue.{SeatValue as QueueSeatValue}
use Rattle.steps.specs.HeapValue.{HeapValue}
use Rattle.steps.specs.CollectionValue.{CollectionValue, young_names}
use Rattle.steps.specs.CollectedHeap.{CollectedHeap}
use Rattle.steps.specs.ReportValue.{WorkerLists, all_won, renaming_of}
use Rattle.steps.specs.declared.heap_values.report.Delivery.{Delivery}
use Rattle.scavenge.specs.Handed.{CopiesKeyValue}
use Rattle.scavenge.specs.Shown.{WorkspaceValue}
use Rattle.scavenge.specs.declared.looking.LookError.TheVariants.{HeapFull}
use Rattle.settling.specs.Collects.{ScansOnce}
use Rattle.workers_in_threads.specs.declared.kit.Brought.{Brought}
use Rattle.workers_in_threads.specs.declared.sharing_worker.resting.Outcome.{Outcome}
use Rattle.workers_in_threads.specs.declared.sharing_worker.resting.Outcome.TheVariants.{Ended, Refused}
use Rattle.workers_in_threads.specs.Kits.{thread_of}
use Rattle.workers_in_threads.specs.Threads.{ThreadValue}
use Rattle.workers_in_threads.specs.Refusing.{Refusing}
use Rattle.workers_in_threads.specs.CameBack.{CameBack, WereSettled, ArePlaced}
use Rattle.workers_in_threads.specs.Reports.{ReportsApart, CollectsApart, IsShortOfBlocksFor, IsStuckApart}
use Rattle.workers_in_threads.proofs.Back.{threads, are, count, passes_are, draws_are, workspaces_count, each_all, each_of}
use Rattle.workers_in_threads.proofs.Lists.{all_each, each_get, get-map, length-map}
use Rattle.workers_in_threads.proofs.Refused.{below_bound, stuck_apart}

some_is : {X : Type 0} {x y : X} → Some x ≡ Some y → x ≡ y
some_is e = cc

pub err_is : {X E : Type 0} {x y : E} → ◌≡◌ {A = Result X E} (Err x) (Err y) → x ≡ y
err_is e = cc

-- what holds of what each brought, at its place
at_map : {X Y : Type 0} (f : X → Y) (F : ℕ → Y → Type 0) (xs : List X) → AtEach (λ i x. F i (f x)) xs → AtEach F (map f xs)
at_map f F [] h i y e = absurd (cc)
at_map f F (x ∷ xs) h zero y e = subst (F 0) (some_is e) (h 0 x refl)
at_map f F (x ∷ xs) h (suc i) y e = at_map f (λ j. F (suc j)) xs (λ j z w. h (suc j) z w) i y e

-- passes with different numbers are apart
pub apart_by_number : (cells : List ℕ) (ps : List NotedValue) → AtEach (IsBoxPass cells) ps → AllPairs IsApart ps
apart_by_number cells ps h i j d less within same =
    let a = (h i (slice_index_or ps i d) (slice_get-get_or ps i d (omega (arith, less, within)))).number in
    let b = (h j (slice_index_or ps j d) (slice_get-get_or ps j d within)).number in
    omega (arith, a, b, same, less)

-- where all is settled, or is known to be won, no name was won twice
pub once_settled : {P : Type 0} (known : P → ℕ → Option Place) (won : P → List (ℕ × Place)) (passes : List P) (cells : ℕ) (r : Result (List (Option Place)) SettleError) → IfOk r (λ f. IsSettled known won passes cells (λ number. slice_index_or f number None))
    → (r ≡ Err Unsettled → (number : ℕ) → wins_of number (all_pairs won passes) ≤ 1) → r ≢ Err NoMemory → (number : ℕ) → wins_of number (all_pairs won passes) ≤ 1
once_settled known won passes cells (Ok f) s u n number = let e = s.once number in let l = least (slice_index_or f number None) in omega (arith, e, l)
  where
    least : (o : Option Place) → ones o ≤ 1
    least None = omega arith
    least (Some x) = omega arith
once_settled known won passes cells (Err Unsettled) s u n number = u refl number
once_settled known won passes cells (Err NoMemory) s u n number = absurd (n refl)

-- a seat that found none is among the seats
out_there : (ss : List SeatValue) (i : ℕ) (s : SeatValue) → slice_get ss i ≡ Some s → s.out ≡ true → any_out ss ≡ true
out_there [] i s e o = absurd (cc)
out_there (x ∷ ss) zero s e o = ap (λ b. b || list_any (λ (y : SeatValue). y.out) ss) (ap (λ (y : SeatValue). y.out) (some_is e) ∙ o)
out_there (x ∷ ss) (suc i) s e o = by x.out (out_there ss i s e o)
  where
    by : (b : Bool) → list_any (λ (y : SeatValue). y.out) ss ≡ true → (b || list_any (λ (y : SeatValue). y.out) ss) ≡ true
    by true r = refl
    by false r = r

module _ {P A : Type 0} (is_pass : ℕ → P → Type 0) (known : P → ℕ → Option Place) (won : P → List (ℕ × Place)) (heap : HeapValue) (c : CollectionValue) (n : ℕ) (ending : Outcome) (passes : List P) (claims : ClaimsValue) (queues : Source A CopiesKeyValue)
    (draws : List SeatValue) (seats : List (QueueSeatValue A CopiesKeyValue)) (workspaces : List WorkspaceValue) (k : CameBack is_pass known won heap c n ending passes claims queues draws seats workspaces) where
  -- each pass is that of its worker
  pub passes_at : AtEach is_pass passes
  passes_at =
      subst (AtEach is_pass) (sym k.lists.passes_are)
      (at_map (λ (r : Brought P A). r.pass) is_pass k.brought (λ i r e. (k.each i r e).pass))

  pub passes_count : length passes ≡ n
  passes_count = ap length (passes_are is_pass known won heap c n ending passes claims queues draws seats workspaces k) ∙ length-map (λ (r : ThreadValue P A). r.pass) (threads is_pass known won heap c n ending passes claims queues draws seats workspaces k) ∙ count is_pass known won heap c n ending passes claims queues draws seats workspaces k

  pub each_pass : (F : P → Type 0) → ((i : ℕ) (p : P) → is_pass i p → F p) → All F passes
  each_pass F f = each_all F passes (each_of is_pass F f passes passes_at)

  -- where one was refused a block, all that were free were drawn
  abbrev refusing : ending ≡ Refused HeapFull → ((number : ℕ) → wins_of number (all_pairs won passes) ≤ 1) → (drawn : ℕ) → length (all_drawn draws) ≡ drawn → (any_out draws ≡ true → drawn ≡ length claims.source.free) → Refusing P A known won
  refusing full once drawn many used =
      let one = (k.lists.refused HeapFull full).one in
      let is = k.each one.place one.element one.there in
      let out : any_out draws ≡ true = subst (λ ds. any_out ds ≡ true) (sym k.lists.draws_are) (out_there (map (λ (r : Brought P A). r.draws) k.brought) one.place one.element.draws (get-map (λ (r : Brought P A). r.draws) k.brought one.place one.element one.there) (is.out one.is)) in
      record {
        heap = heap;
        collection = c;
        workers = n;
        threads = threads is_pass known won heap c n ending passes claims queues draws seats workspaces k;
        ready = k.ready;
        count = count is_pass known won heap c n ending passes claims queues draws seats workspaces k;
        each = are is_pass known won heap c n ending passes claims queues draws seats workspaces k;
        won_least = λ number. subst (λ ps. wins_of number (all_pairs won ps) ≤ 1) (passes_are is_pass known won heap c n ending passes claims queues draws seats workspaces k) (once number);
        drawn = ap (λ ds. length (all_drawn ds)) (sym (draws_are is_pass known won heap c n ending passes claims queues draws seats workspaces k)) ∙ many ∙ used out ∙ ap length k.free;
        t = one.place;
        thread = thread_of one.element;
        there = get-map thread_of k.brought one.place one.element one.there;
        can = is.can one.is;
        wanted = is.wanted one.is;
      }

  -- so one is stuck, and fewer were free than the space bound
  pub stuck : ending ≡ Refused HeapFull → ((number : ℕ) → wins_of number (all_pairs won passes) ≤ 1) → (drawn : ℕ) → length (all_drawn draws) ≡ drawn → (any_out draws ≡ true → drawn ≡ length claims.source.free) → IsStuckApart heap c.generation n
  stuck full once drawn many used = stuck_apart (refusing full once drawn many used)

  pub short : ending ≡ Refused HeapFull → ((number : ℕ) → wins_of number (all_pairs won passes) ≤ 1) → (drawn : ℕ) → length (all_drawn draws) ≡ drawn → (any_out draws ≡ true → drawn ≡ length claims.source.free) → IsShortOfBlocksFor heap c.generation n
  short full once drawn many used words live = below_bound (refusing full once drawn many used) words live

-- where all ended and the cells were settled, each name has its place
pub placed : {P A C : Type 0} (is_pass : C → ℕ → P → Type 0) (known : P → ℕ → Option Place) (won : P → List (ℕ × Place)) (heap : HeapValue) (c : CollectionValue) (n : ℕ) (claims : ClaimsValue) (queues : Source A CopiesKeyValue)
    (draws : List SeatValue) (seats : List (QueueSeatValue A CopiesKeyValue)) (workspaces : List WorkspaceValue) (r : Result (List (Option Place)) SettleError) → WereSettled is_pass known won heap c n Ended claims queues draws seats workspaces r
    → (f items : List (Option Place)) → r ≡ Ok f → items ≡ f → ArePlaced is_pass known won heap c n Ended claims queues draws seats workspaces items
placed is_pass known won heap c n claims queues draws seats workspaces r k f items ok is =
    record {
      cells = k.cells;
      passes = k.passes;
      back = k.back;
      settled = subst (λ xs. IsSettled known won k.passes c.cells (λ number. slice_index_or xs number None)) (sym is) (subst (λ x. IfOk x (λ g. IsSettled known won k.passes c.cells (λ number. slice_index_or g number None))) ok k.places);
      many = ap length is ∙ subst (λ x. IfOk x (λ g. length g ≡ c.cells)) ok k.many;
    }

-- what holds of all holds of each at its place
pub at_all : {X : Type 0} (F G : X → Type 0) → ((x : X) → F x → G x) → (xs : List X) → All F xs → AtEach (λ i. G) xs
at_all F G f xs h i x e = f x (each_get F xs i x (all_each F xs h) e)

-- the cells of workers who came back were settled, or were not
pub were_settled : {P A C : Type 0} (is_pass : C → ℕ → P → Type 0) (known : P → ℕ → Option Place) (won : P → List (ℕ × Place)) (heap : HeapValue) (c : CollectionValue) (n : ℕ) (ending : Outcome) (claims : ClaimsValue) (queues : Source A CopiesKeyValue)
    (draws : List SeatValue) (seats : List (QueueSeatValue A CopiesKeyValue)) (workspaces : List WorkspaceValue) (cells : C) (passes : List P) (r : Result (List (Option Place)) SettleError)
    → CameBack (is_pass cells) known won heap c n ending passes claims queues draws seats workspaces → (count : ℕ) → count ≡ c.cells
    → IfOk r (λ f. IsSettled known won passes count (λ number. slice_index_or f number None)) → IfOk r (λ f. length f ≡ count) → (r ≡ Err Unsettled → (number : ℕ) → wins_of number (all_pairs won passes) ≤ 1)
    → WereSettled is_pass known won heap c (length workspaces) ending claims queues draws seats workspaces r
were_settled is_pass known won heap c n ending claims queues draws seats workspaces cells passes r back count all settled many unsettled =
    record {
      cells = cells;
      passes = passes;
      back = subst (λ m. CameBack (is_pass cells) known won heap c m ending passes claims queues draws seats workspaces) (sym (workspaces_count (is_pass cells) known won heap c n ending passes claims queues draws seats workspaces back)) back;
      places = subst (λ m. IfOk r (λ f. IsSettled known won passes m (λ number. slice_index_or f number None))) all settled;
      many = subst (λ m. IfOk r (λ f. length f ≡ m)) all many;
      won_once = once_settled known won passes count r settled unsettled;
    }

-- the commit of what they brought
pub apart_collects : (old new : HeapValue) (g generation n kept freed : ℕ) (workers reported : List WorkerLists) (deliveries told : List Delivery) → generation ≡ g
    → ReportsApart old generation n workers deliveries → ScansOnce old generation workers → reported ≡ workers → told ≡ deliveries
    → CollectedHeap old generation (renaming_of (young_names old.graph generation) (all_won workers)) new → LiveCount old.graph generation kept → kept ≡ sum_by (λ (w : WorkerLists). length w.won) workers → kept + freed ≡ length (young_names old.graph generation) → CollectsApart old g n kept freed reported told new
apart_collects old new g generation n kept freed workers reported deliveries told same apart once lists_are deliveries_are heap live sum count =
    subst (λ m. CollectsApart old m n kept freed reported told new) same
    (subst (λ ws. CollectsApart old generation n kept freed ws told new) (sym lists_are)
    (subst (λ ds. CollectsApart old generation n kept freed workers ds new) (sym deliveries_are)
    (record {
      collects = record { heap = heap; kept_is = live; kept_sum = sum; freed_is = count; once = once };
      told = inl apart;
    })))
