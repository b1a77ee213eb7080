-- A collection by several workers before its first event.
use Rattle.std.proofs.Common.{◌≡◌, ℕ, zero, suc, ◌+◌, ◌<◌, ◌≤◌, Bool, false, List, [], ◌∷◌, ◌++◌, length, map, replicate, Some, None, refl, sym, ap, subst, ◌∙◌, arith, append_assoc, length-append}
use Rattle.std.specs.Prelude.{All, slice_get, slice_index_or, count_by}
use Rattle.std.specs.List.{range_with_len}
use Rattle.std.specs.Ordering.{nat_cmp}
use Rattle.std.specs.FinMap.{find}
use Rattle.std.proofs.lemmas.List.{map-append}
use Rattle.std.proofs.lemmas.List.Elements.{All-head}
use Rattle.std.proofs.lemmas.List.FromFn.{length-range_with_len, get_or-range_with_len}
use Rattle.layout.specs.declared.place.Place.{Place}
use Rattle.block_pool.specs.ClaimsValue.{SeatValue, unused}
use Rattle.forwarding.specs.Plain.{PlainPassValue, IsFit, IsWinOf, place_held, empty_cells}
use Rattle.forwarding.specs.Plain.{PlainValue as PlainCellsValue}
use Rattle.forwarding.specs.declared.plain_cells.held.Held.{Held}
use Rattle.pending_queues.specs.PlainValue.{PlainLane, empty_lane, new_pending}
use Rattle.pending_queues.specs.PlainValue.{PlainValue as PlainQueuesValue}
use Rattle.steps.specs.HeapValue.{HeapValue}
use Rattle.steps.specs.CollectionValue.{CollectionValue}
use Rattle.scavenge.specs.Handed.{CopiesKeyValue}
use Rattle.workers.specs.Block.{Block}
use Rattle.workers.specs.Worker.{Worker}
use Rattle.workers.specs.WorkerRun.{WorkerRun, stay, no_history}
use Rattle.workers.specs.System.{System, opening, opening_worker, opening_workers}
use Rattle.workers.proofs.Progress.{count-false}
use Rattle.scavenge.specs.Slots.{cell_of, seen}
use Rattle.scavenge.specs.Waiting.{left_of}
use Rattle.scavenge.specs.ReadyToCollect.{IsReadyToCollect}
use Rattle.machine.specs.InterleavedValue.{InterleavedValue, MemberValue, queue_in, exports_in, forwarded_in, forwarded_at, worker_of, system_of, setting_for, targets_in, destinations_in}
use Rattle.machine.specs.IsInterleaved.{IsInterleaved, IsMember, IsFirst, AreFirst, IsLane, begins}
use Rattle.machine.proofs.Places.{length-map}
use Rattle.machine.proofs.Lanes.{places_more}
use Rattle.machine.proofs.Reaching.{reached_first}

at-middle : (xs ys : List ℕ) (x d : ℕ) → slice_index_or (xs ++ x ∷ ys) (length xs) d ≡ x
at-middle [] ys x d = refl
at-middle (z ∷ xs) ys x d = at-middle xs ys x d

length-middle : (xs ys : List ℕ) (x : ℕ) → length (xs ++ x ∷ ys) ≡ length xs + 1 + length ys
length-middle [] ys x = omega arith
length-middle (z ∷ xs) ys x = let h = length-middle xs ys x in omega (arith, h)

nth : (n : ℕ) (xs ys : List ℕ) (x : ℕ) → xs ++ x ∷ ys ≡ range_with_len 0 n → (x ≡ length xs) × (length xs < n)
nth n xs ys x e =
    let total : length (xs ++ x ∷ ys) ≡ n = ap length e ∙ length-range_with_len 0 n in
    let many = length-middle xs ys x in
    let few : length xs < n = omega (arith, total, many) in
    let at : slice_index_or (xs ++ x ∷ ys) (length xs) 0 ≡ 0 + length xs = ap (λ zs. slice_index_or zs (length xs) 0) e ∙ get_or-range_with_len 0 n (length xs) 0 few in
    let is : x ≡ 0 + length xs = sym (at-middle xs ys x 0) ∙ at in
    (omega (arith, is), few)

-- the seats are dealt out in order
module _ (ms : List MemberValue) (rest : List ℕ) (x n : ℕ) (seats : map (λ (m : MemberValue). m.seat) ms ++ x ∷ rest ≡ range_with_len 0 n) where
  pub seat_is : x ≡ length ms
  seat_is = let r = nth n (map (λ (m : MemberValue). m.seat) ms) rest x seats in r.0 ∙ length-map (λ (m : MemberValue). m.seat) ms

  pub seat_below : x < n
  seat_below =
      let r = nth n (map (λ (m : MemberValue). m.seat) ms) rest x seats in
      let e = r.0 in
      let l = r.1 in
      omega (arith, e, l)

  pub seats_more : (m : MemberValue) → m.seat ≡ x → map (λ (y : MemberValue). y.seat) (ms ++ m ∷ []) ++ rest ≡ range_with_len 0 n
  seats_more m e =
      ap (λ zs. zs ++ rest) (map-append (λ (y : MemberValue). y.seat) ms (m ∷ []))
      ∙ append_assoc (map (λ (y : MemberValue). y.seat) ms) (m.seat ∷ []) rest
      ∙ ap (λ s. map (λ (y : MemberValue). y.seat) ms ++ s ∷ rest) e
      ∙ seats

pub all_seated : (ms : List MemberValue) (rest : List ℕ) (n : ℕ) → length rest ≡ 0 → map (λ (m : MemberValue). m.seat) ms ++ rest ≡ range_with_len 0 n → length ms ≡ n
all_seated ms rest n none seats =
    let e : length (map (λ (m : MemberValue). m.seat) ms ++ rest) ≡ n = ap length seats ∙ length-range_with_len 0 n in
    let a : length (map (λ (m : MemberValue). m.seat) ms ++ rest) ≡ length (map (λ (m : MemberValue). m.seat) ms) + length rest = length-append (map (λ (m : MemberValue). m.seat) ms) rest in
    let b = length-map (λ (m : MemberValue). m.seat) ms in
    omega (arith, e, a, b, none)

pub each_first : (heap : HeapValue) (c : CollectionValue) (n : ℕ) (ms : List MemberValue) (m : MemberValue) → ((t : ℕ) (x : MemberValue) → slice_get ms t ≡ Some x → IsFirst heap c n t x) → IsFirst heap c n (length ms) m
    → (t : ℕ) (x : MemberValue) → slice_get (ms ++ m ∷ []) t ≡ Some x → IsFirst heap c n t x
each_first heap c n ms m each is = places_more (IsFirst heap c n) ms m each is

-- lists of which each element is the same
map-replicate : {A B : Type 0} (f : A → B) (n : ℕ) (x : A) → map f (replicate n x) ≡ replicate n (f x)
map-replicate f zero x = refl
map-replicate f (suc n) x = ap (λ ys. f x ∷ ys) (map-replicate f n x)

map-same : {A B : Type 0} (f : A → B) (y : B) (n : ℕ) (xs : List A) → length xs ≡ n → ((t : ℕ) (x : A) → slice_get xs t ≡ Some x → f x ≡ y) → map f xs ≡ replicate n y
map-same f y zero [] l each = refl
map-same f y zero (x ∷ xs) l each = absurd (omega (arith, l))
map-same f y (suc n) [] l each = absurd (omega (arith, l))
map-same f y (suc n) (x ∷ xs) l each = ap (λ z. z ∷ map f xs) (each 0 x refl) ∙ ap (λ zs. y ∷ zs) (map-same f y n xs (omega (arith, l)) (λ t z e. each (suc t) z e))

in-replicate : {A : Type 0} (n : ℕ) (x y : A) (t : ℕ) → slice_get (replicate n x) t ≡ Some y → x ≡ y
in-replicate zero x y t e = absurd (cc)
in-replicate (suc n) x y zero e = cc
in-replicate (suc n) x y (suc t) e = in-replicate n x y t e

length-replicate : {A : Type 0} (n : ℕ) (x : A) → length (replicate n x) ≡ n
length-replicate zero x = refl
length-replicate (suc n) x = ap suc (length-replicate n x)

none_idle : (n : ℕ) → count_by (λ b. b) (replicate n false) ≡ 0
none_idle zero = refl
none_idle (suc n) = count-false (replicate n false) ∙ none_idle n

same_workers : (d n : ℕ) (slots : List ℕ) (k t : ℕ) (ms : List MemberValue) → length ms ≡ k → ((i : ℕ) (m : MemberValue) → slice_get ms i ≡ Some m → worker_of m ≡ opening_worker d n slots (t + i)) → map worker_of ms ≡ opening_workers d n slots t k
same_workers d n slots zero t [] l each = refl
same_workers d n slots zero t (m ∷ ms) l each = absurd (omega (arith, l))
same_workers d n slots (suc k) t [] l each = absurd (omega (arith, l))
same_workers d n slots (suc k) t (m ∷ ms) l each =
    ap (λ w. w ∷ map worker_of ms) (each 0 m refl ∙ ap (opening_worker d n slots) first)
    ∙ ap (λ ws. opening_worker d n slots t ∷ ws) (same_workers d n slots k (t + 1) ms (omega (arith, l)) (λ i x e. each (suc i) x e ∙ ap (opening_worker d n slots) (next i)))
  where
    first : t + 0 ≡ t
    first = omega arith

    next : (i : ℕ) → t + suc i ≡ t + 1 + i
    next i = omega arith

none_held : (count number : ℕ) → place_held (replicate count None) number ≡ None
none_held zero number = refl
none_held (suc count) zero = refl
none_held (suc count) (suc number) = none_held count number

nothing_held : (count number : ℕ) (held : Held) → slice_index_or (replicate count None) number None ≡ Some held → ⊥
nothing_held zero number held e = absurd (cc)
nothing_held (suc count) zero held e = absurd (cc)
nothing_held (suc count) (suc number) held e = nothing_held count number held e

-- who has won nothing that empty cells hold has won nothing
none_won : (count : ℕ) (pass : PlainPassValue) → IsFit (empty_cells count 1) pass → pass.won ≡ []
none_won count pass fit = go pass.won fit.won
  where
    go : (won : List (ℕ × Place)) → All (IsWinOf (replicate count None) pass.number) won → won ≡ []
    go [] h = refl
    go (x ∷ xs) h = absurd (nothing_held count x.0 (record { place = x.1; winner = pass.number }) (All-head (IsWinOf (replicate count None) pass.number) x xs h))

abbrev pub key_of : HeapValue → ℕ → CopiesKeyValue
key_of heap generation = record { heap = heap; generation = generation }

-- nothing is won, drawn or queued, and none is idle
module _ (v : InterleavedValue) (ready : IsReadyToCollect v.heap v.collection) (cells : v.cells ≡ empty_cells v.collection.cells 1) (fit : IsFit v.cells v.pass) (free : v.claims.source.free ≡ v.heap.free) (seats : v.claims.source.seats ≡ 1) (draws : v.draws ≡ unused v.claims.source)
    (queues : v.queues ≡ new_pending (key_of v.heap v.collection.generation) v.workers) (some : 0 < v.workers) (most : v.workers ≤ 16) (idlers : v.idlers ≡ 0) (first : AreFirst v.heap v.collection v.workers v.members) where
  won_none : v.pass.won ≡ []
  won_none = none_won v.collection.cells v.pass (subst (λ (x : PlainCellsValue). IsFit x v.pass) cells fit)

  forwarded_none : forwarded_in v.heap v.collection v.pass ≡ []
  forwarded_none = ap (map (λ (e : ℕ × Place). forwarded_at v.heap v.collection e.0 e.1)) won_none

  idle_none : map (λ (m : MemberValue). m.idle) v.members ≡ replicate v.workers false
  idle_none = map-same (λ (m : MemberValue). m.idle) false v.workers v.members first.count (λ t m e. (first.each t m e).awake)

  lanes : v.queues.lanes ≡ replicate v.workers empty_lane
  lanes = ap (λ (q : PlainQueuesValue CopiesKeyValue). q.lanes) queues

  no_lane : (u : ℕ) → IsLane u empty_lane
  no_lane u = record { taken = omega arith; labels = λ position block e. absurd (cc); noted = λ position block e. absurd (cc) }

  member : (t : ℕ) (m : MemberValue) → IsFirst v.heap v.collection v.workers t m → IsMember v.heap v.collection v.workers t m
  member t m is =
      record {
        seat = is.seat;
        config = is.config;
        names = is.names;
        claim = is.claim;
        worked = record {
          history = no_history;
          run = subst (λ w. WorkerRun (setting_for v.heap v.collection v.workers) (begins v.heap v.collection v.workers t) w no_history) (sym is.worker) stay;
          taken = tt;
        };
      }

  system : List (ℕ × ℕ) → List ℕ → List Worker → List (List Block) → List (List Block) → List (List (ℕ × ℕ)) → List Bool → List Bool → System
  system forwarded free workers queues exported taken idle ended = record { forwarded = forwarded; free = free; workers = workers; queues = queues; exported = exported; taken = taken; idle = idle; ended = ended }

  pub first_system : system_of v ≡ opening (destinations_in v) v.workers (targets_in v) v.heap.free
  unfolding system
  first_system =
      ap (λ fs. system fs frees workers qs es ts is ns) forwarded_none
      ∙ ap (λ fs. system [] fs workers qs es ts is ns) (ap (λ (s : SeatValue). left_of v.claims.source.free s.drawn) draws ∙ free)
      ∙ ap (λ ws. system [] v.heap.free ws qs es ts is ns) (same_workers (destinations_in v) v.workers (targets_in v) v.workers 0 v.members first.count (λ i m e. (first.each i m e).worker ∙ ap (begins v.heap v.collection v.workers) (from_zero i)))
      ∙ ap (λ x. system [] v.heap.free opened x es ts is ns) (ap (map (queue_in v.heap.config.shape)) lanes ∙ map-replicate (queue_in v.heap.config.shape) v.workers empty_lane)
      ∙ ap (λ x. system [] v.heap.free opened (replicate v.workers []) x ts is ns) (ap (map (exports_in v.heap.config.shape)) lanes ∙ map-replicate (exports_in v.heap.config.shape) v.workers empty_lane)
      ∙ ap (λ x. system [] v.heap.free opened (replicate v.workers []) (replicate v.workers []) x is ns) (map-same (λ (m : MemberValue). m.taken) [] v.workers v.members first.count (λ t m e. (first.each t m e).taken))
      ∙ ap (λ x. system [] v.heap.free opened (replicate v.workers []) (replicate v.workers []) (replicate v.workers []) x ns) idle_none
      ∙ ap (λ x. system [] v.heap.free opened (replicate v.workers []) (replicate v.workers []) (replicate v.workers []) (replicate v.workers false) x) (map-same (λ (m : MemberValue). m.ended) false v.workers v.members first.count (λ t m e. (first.each t m e).going))
    where
      frees : List ℕ
      frees = left_of v.claims.source.free v.draws.drawn

      workers : List Worker
      workers = map worker_of v.members

      opened : List Worker
      opened = opening_workers (destinations_in v) v.workers (targets_in v) 0 v.workers

      qs : List (List Block)
      qs = map (queue_in v.heap.config.shape) v.queues.lanes

      es : List (List Block)
      es = map (exports_in v.heap.config.shape) v.queues.lanes

      ts : List (List (ℕ × ℕ))
      ts = map (λ (m : MemberValue). m.taken) v.members

      is : List Bool
      is = map (λ (m : MemberValue). m.idle) v.members

      ns : List Bool
      ns = map (λ (m : MemberValue). m.ended) v.members

      from_zero : (i : ℕ) → i ≡ 0 + i
      from_zero i = omega arith

  pub begun : IsInterleaved v
  begun =
      record {
        ready = ready;
        some = some;
        most = most;
        count = first.count;
        idlers = idlers ∙ sym (none_idle v.workers) ∙ ap (λ bs. count_by (λ b. b) bs) (sym idle_none);
        cells = record {
          fits = fit;
          passes = ap (λ (x : PlainCellsValue). x.passes) cells;
          count = ap (λ (x : PlainCellsValue). length x.held) cells ∙ length-replicate v.collection.cells None;
          shown = λ name number of. ap (λ (x : PlainCellsValue). cell_of (seen v.heap v.collection) (Some name) (place_held x.held number)) cells
              ∙ ap (cell_of (seen v.heap v.collection) (Some name)) (none_held v.collection.cells number) ∙ ap (λ fs. find nat_cmp name fs) (sym forwarded_none);
        };
        draws = record { free = free; seats = seats; seat = ap (λ (s : SeatValue). s.source) draws };
        queue = record {
          key = ap (λ (q : PlainQueuesValue CopiesKeyValue). q.key) queues;
          count = ap length lanes ∙ length-replicate v.workers empty_lane;
          each = λ u lane e. subst (IsLane u) (in-replicate v.workers empty_lane lane u (ap (λ ls. slice_get ls u) (sym lanes) ∙ e)) (no_lane u);
        };
        each = λ t m e. member t m (first.each t m e);
        reached = reached_first v ready some first_system;
        takers = λ u lane e position t taken. absurd (let none : lane ≡ empty_lane = sym (in-replicate v.workers empty_lane lane u (ap (λ ls. slice_get ls u) (sym lanes) ∙ e)) in let x = sym (ap (λ (l : PlainLane). slice_get l.takers position) none) ∙ taken in cc);
      }
