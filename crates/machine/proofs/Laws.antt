-- Which events are lawful, as the members and their queues tell.
use Rattle.std.proofs.Common.{◌≡◌, ◌≢◌, ℕ, ◌+◌, ◌<◌, ◌≤◌, Bool, true, false, not, List, [], ◌∷◌, length, map, drop, Option, Some, None, refl, sym, ap, subst, ◌∙◌, arith, true≢false, is_some}
use Rattle.std.specs.Prelude.{IsTrue, IsSome, slice_get, slice_index_or}
use Rattle.std.proofs.lemmas.Option.{slice_get-get_or}
use Rattle.model.specs.Destination.{Shape}
use Rattle.block_pool.specs.BlockValue.{BlockValue}
use Rattle.pending_queues.specs.PlainValue.{PlainLane, lane_at, front_of}
use Rattle.workers.specs.Block.{Block}
use Rattle.workers.specs.Worker.{Worker}
use Rattle.workers.specs.Lawful.{MayAct, HasQueued, lowest_open}
use Rattle.workers.specs.WorkerSteps.{IsFree, IsOutOfWork, CanLook, CanScan}
use Rattle.model.specs.Graph.{IsClosed}
use Rattle.steps.specs.HeapValue.{HeapValue}
use Rattle.steps.specs.NamesArePlaces.{NamesArePlaces}
use Rattle.heap.proofs.SoundHeap.{heap_closed, heap_places}
use Rattle.workers.specs.Ready.{IsUntouched}
use Rattle.scavenge.specs.Slots.{objects_of}
use Rattle.scavenge.proofs.OpenBlocks.{none_there, open_there}
use Rattle.scavenge.specs.Named.{named}
use Rattle.machine.specs.InterleavedValue.{InterleavedValue, MemberValue, worker_of, queue_in, system_of, setting_in}
use Rattle.machine.specs.IsInterleaved.{IsInterleaved}
use Rattle.machine.proofs.Places.{found, get-map, get-within, length-map, index-or}
use Rattle.machine.proofs.Members.{is_in}
use Rattle.machine.proofs.Readiness.{ready_of}
use Rattle.machine.proofs.Lanes.{own_lane, lane_is, front_waits, drop_next}

pub unset : (b : Bool) → IsTrue (not b) → b ≡ false
unset true e = absurd (true≢false (sym e))
unset false e = refl

-- the member that a look-up found
pub looked_up : (ms ds : List MemberValue) (t : ℕ) (shown now : MemberValue) → ds ≡ ms → shown ≡ now → t < length ds → now ≡ slice_index_or ds t now → slice_get ms t ≡ Some shown
looked_up ms ds t shown now same e l is =
    subst (λ xs. slice_get xs t ≡ Some shown) same
    (subst (λ m. slice_get ds t ≡ Some m) (sym e) (slice_get-get_or ds t now l ∙ ap (λ m. Some m) (sym is)))

abbrev pub Says : Bool → Type 0 → Type 0
Says b P = (IsTrue b → P) × (P → IsTrue b)

some_is : {x y : Bool} → Some x ≡ Some y → x ≡ y
some_is e = cc

pub awake_says : (ms : List MemberValue) (t : ℕ) (m : MemberValue) → slice_get ms t ≡ Some m → Says (not m.idle) (slice_get (map (λ (x : MemberValue). x.idle) ms) t ≡ Some false)
awake_says ms t m at =
    let there = get-map (λ (x : MemberValue). x.idle) ms t m at in
    ((λ e. there ∙ ap (λ b. Some b) (unset m.idle e)), (λ e. ap not (some_is (sym there ∙ e))))

-- there is none past the last
pub none_past : (f : MemberValue → Bool) (b : Bool) (ms ds : List MemberValue) (t : ℕ) → ds ≡ ms → length ds ≤ t → slice_get (map f ms) t ≡ Some b → ⊥
none_past f b ms ds t same l e =
    let w = get-within (map f ms) t b e in
    let n = length-map f ms in
    let d = ap length same in
    omega (arith, w, n, d, l)

-- worker t isn't idle, so it may what its state allows
module _ (P : Worker → Type 0) (v : InterleavedValue) (t : ℕ) (m : MemberValue) (is : m ≡ slice_index_or v.members t m) (awake : slice_get (system_of v).idle t ≡ Some false) where
  pub may_there : slice_get v.members t ≡ Some m
  may_there =
      let f = found (λ (x : MemberValue). x.idle) v.members t false awake in
      f.1.0 ∙ ap (λ x. Some x) (sym (is ∙ index-or v.members t f.0 m f.1.0))

  pub may : P m.workspace.worker → MayAct P (system_of v) t
  may p = record { worker = m.workspace.worker; at = record { is = get-map worker_of v.members t m may_there; awake = awake }; can = p }

  pub may_says : (b : Bool) → Says b (P m.workspace.worker) → Says b (MayAct P (system_of v) t)
  may_says b s = ((λ e. may (s.0 e)), (λ x. s.1 (is_in P v t m is x).can))

-- worker t is idle, or isn't there
pub asleep_says : (P : Worker → Type 0) (v : InterleavedValue) (t : ℕ) (b r : Bool) → r ≡ b → b ≡ false → Says b (slice_get (system_of v).idle t ≡ Some false) → Says r (MayAct P (system_of v) t)
asleep_says P v t b r same off says = ((λ e. absurd (true≢false (sym e ∙ same ∙ off))), (λ (x : MayAct P (system_of v) t). absurd (true≢false (sym (says.1 x.at.awake) ∙ off))))

pub says_as : (P : InterleavedValue → Type 0) {v now : InterleavedValue} (b : Bool) → v ≡ now → Says b (P v) → Says b (P now)
says_as P b e s = subst (λ x. Says b (P x)) e s

-- a block waits exactly where there is one at the front
module _ (v : InterleavedValue) (k : IsInterleaved v) (u : ℕ) where
  abbrev shape : Shape
  shape = v.heap.config.shape

  waits : (lane : PlainLane) → slice_get v.queues.lanes u ≡ Some lane → IsSome (front_of lane) → HasQueued (system_of v) u
  waits lane at is = go (front_of lane) refl is
    where
      go : (o : Option BlockValue) → front_of lane ≡ o → IsSome o → HasQueued (system_of v) u
      go None e s = absurd (true≢false (sym s))
      go (Some b) e s =
          record {
            block = named shape b;
            rest = map (named shape) (drop (length lane.takers + 1) lane.sent);
            front = get-map (queue_in shape) v.queues.lanes u lane at ∙ ap (λ q. Some (map (named shape) q)) (drop_next lane.sent (length lane.takers) b e);
          }

  in_front : HasQueued (system_of v) u → IsSome (front_of (lane_at v.queues u))
  in_front q = go (front_of (lane_at v.queues u)) refl
    where
      f : (lane : PlainLane) × ((slice_get v.queues.lanes u ≡ Some lane) × ((q.block ∷ q.rest) ≡ queue_in shape lane))
      f = found (queue_in shape) v.queues.lanes u (q.block ∷ q.rest) q.front

      same : lane_at v.queues u ≡ f.0
      same = lane_is v.heap v.collection v.workers v.queues k.queue u f.0 f.1.0

      go : (o : Option BlockValue) → front_of (lane_at v.queues u) ≡ o → IsSome (front_of (lane_at v.queues u))
      go None e = absurd (front_waits shape f.0 q.block q.rest (sym f.1.1) (ap front_of (sym same) ∙ e))
      go (Some b) e = subst IsSome (sym e) refl

  pub queued_says : (b : Bool) → u < v.workers → Says b (IsSome (front_of (lane_at v.queues u))) → Says b (HasQueued (system_of v) u)
  queued_says b l s = ((λ e. waits (lane_at v.queues u) (own_lane v.heap v.collection v.workers v.queues k.queue u l) (s.0 e)), (λ q. s.1 (in_front q)))

  pub queued_below : HasQueued (system_of v) u → u < v.workers
  queued_below q =
      let f = found (queue_in shape) v.queues.lanes u (q.block ∷ q.rest) q.front in
      let l = get-within v.queues.lanes u f.0 f.1.0 in
      omega (arith, l, k.queue.count)

  pub unqueued_says : (b : Bool) → (u < v.workers → ⊥) → b ≡ false → Says b (HasQueued (system_of v) u)
  unqueued_says b past e = ((λ x. absurd (true≢false (sym x ∙ e))), (λ q. absurd (past (queued_below q))))

-- a list that isn't some is empty
pub empty_by : {A : Type 0} (xs : List A) (b : Bool) → (xs ≢ [] → IsTrue b) → b ≡ false → xs ≡ []
empty_by [] b f e = refl
empty_by (x ∷ xs) b f e = absurd (true≢false (sym (f (λ q. (let z : x ∷ xs ≡ [] = q in cc))) ∙ e))

-- nothing of its own is left to a worker
pub out_says : (w : Worker) (aside large none : Bool) (lowest : Option ℕ) → IsFree w → (w.aside ≢ [] → IsTrue aside) → aside ≡ false → (w.large ≢ [] → IsTrue large) → large ≡ false → lowest ≡ lowest_open 0 w.allocation → is_some lowest ≡ not none → Says none (IsOutOfWork w)
out_says w aside large none lowest free a a_off l l_off low is = (there none is, back none is)
  where
    nothing : lowest ≡ None → IsOutOfWork w
    nothing e = record { free = free; no_aside = empty_by w.aside aside a a_off; no_large = empty_by w.large large l l_off; all_scanned = none_there 0 w.allocation (sym low ∙ e) }

    there : (b : Bool) → is_some lowest ≡ not b → IsTrue b → IsOutOfWork w
    there false i e = absurd (true≢false (sym e))
    there true i e = go lowest refl i
      where
        go : (o : Option ℕ) → lowest ≡ o → is_some o ≡ false → IsOutOfWork w
        go None at s = nothing at
        go (Some d) at s = absurd (true≢false s)

    back : (b : Bool) → is_some lowest ≡ not b → IsOutOfWork w → IsTrue b
    back true i k = refl
    back false i k = go lowest refl i
      where
        go : (o : Option ℕ) → lowest ≡ o → is_some o ≡ true → IsTrue false
        go None at s = absurd (true≢false (sym s))
        go (Some d) at s = let x = open_there 0 w.allocation d (sym low ∙ at) in absurd (true≢false (sym x.1.1 ∙ k.all_scanned x.0))

-- a member that a look-up found rests
pub resting_says : (ms : List MemberValue) (t : ℕ) (m : MemberValue) → slice_get ms t ≡ Some m → m.idle ≡ true → Says (not m.ended) ((slice_get (map (λ (x : MemberValue). x.idle) ms) t ≡ Some true) × (slice_get (map (λ (x : MemberValue). x.ended) ms) t ≡ Some false))
resting_says ms t m at idle =
    let there = get-map (λ (x : MemberValue). x.ended) ms t m at in
    ((λ e. (get-map (λ (x : MemberValue). x.idle) ms t m at ∙ ap (λ b. Some b) idle, there ∙ ap (λ b. Some b) (unset m.ended e))), (λ x. ap not (some_is (sym there ∙ x.1))))

pub waking_says : (ms : List MemberValue) (t : ℕ) (m : MemberValue) → slice_get ms t ≡ Some m → m.idle ≡ false → Says m.idle ((slice_get (map (λ (x : MemberValue). x.idle) ms) t ≡ Some true) × (slice_get (map (λ (x : MemberValue). x.ended) ms) t ≡ Some false))
waking_says ms t m at awake =
    ((λ e. absurd (true≢false (sym e ∙ awake))), (λ x. absurd (true≢false (some_is (sym x.0 ∙ get-map (λ (y : MemberValue). y.idle) ms t m at ∙ ap (λ b. Some b) awake)))))

-- what a worker can do is told by the objects alone
module _ (v : InterleavedValue) (w : Worker) (heap : HeapValue) (same : heap ≡ v.heap) (b : Bool) where
  pub look_as : Says b (CanLook (objects_of heap) w) → Says b (CanLook (setting_in v) w)
  look_as s =
      let x = subst (λ (h : HeapValue). Says b (CanLook (objects_of h) w)) same s in
      ((λ e. (let k = x.0 e in record { no_proposal = k.no_proposal; slot = k.slot })), (λ k. x.1 (record { no_proposal = k.no_proposal; slot = k.slot })))

  pub scan_as : Says b (CanScan (objects_of heap) w) → Says b (CanScan (setting_in v) w)
  scan_as s =
      let x = subst (λ (h : HeapValue). Says b (CanScan (objects_of h) w)) same s in
      ((λ e. (let k = x.0 e in record { no_proposal = k.no_proposal; hand = k.hand; no_slot = k.no_slot })), (λ k. x.1 (record { no_proposal = k.no_proposal; hand = k.hand; no_slot = k.no_slot })))

-- what reading a worker's slot relies on
module _ (v : InterleavedValue) (k : IsInterleaved v) (t : ℕ) (m : MemberValue) (at : slice_get v.members t ≡ Some m) (heap : HeapValue) (same : heap ≡ v.heap) where
  pub closed_there : IsClosed heap.graph
  closed_there = subst (λ (h : HeapValue). IsClosed h.graph) (sym same) (heap_closed v.heap k.ready.sound)

  pub places_there : NamesArePlaces heap.graph
  places_there = subst (λ (h : HeapValue). NamesArePlaces h.graph) (sym same) (heap_places v.heap k.ready.sound)

  pub untouched_there : IsUntouched (objects_of heap) m.workspace.worker
  untouched_there = subst (λ (h : HeapValue). IsUntouched (objects_of h) m.workspace.worker) (sym same) (ready_of v.heap v.collection k.ready v.workers t m (k.each t m at)).untouched

-- a worker may go idle where its queue is empty
module _ (v : InterleavedValue) (k : IsInterleaved v) (t : ℕ) (m : MemberValue) (is : m ≡ slice_index_or v.members t m) (awake : slice_get (system_of v).idle t ≡ Some false) (queued : Bool) (says : HasQueued (system_of v) t → IsTrue queued) (off : queued ≡ false) where
  no_queue : slice_get (system_of v).queues t ≡ Some []
  no_queue = there ∙ ap (λ q. Some q) (go (queue_in v.heap.config.shape (lane_at v.queues t)) refl)
    where
      l : t < v.workers
      l = let w = get-within v.members t m (may_there IsOutOfWork v t m is awake) in omega (arith, w, k.count)

      there : slice_get (system_of v).queues t ≡ Some (queue_in v.heap.config.shape (lane_at v.queues t))
      there = get-map (queue_in v.heap.config.shape) v.queues.lanes t (lane_at v.queues t) (own_lane v.heap v.collection v.workers v.queues k.queue t l)

      go : (q : List Block) → queue_in v.heap.config.shape (lane_at v.queues t) ≡ q → queue_in v.heap.config.shape (lane_at v.queues t) ≡ []
      go [] e = e
      go (b ∷ bs) e = absurd (true≢false (sym (says (record { block = b; rest = bs; front = there ∙ ap (λ x. Some x) e })) ∙ off))

  pub idle_says : (b : Bool) → Says b (IsOutOfWork m.workspace.worker) → Says b (MayAct IsOutOfWork (system_of v) t × (slice_get (system_of v).queues t ≡ Some []))
  idle_says b s = ((λ e. (may IsOutOfWork v t m is awake (s.0 e), no_queue)), (λ x. s.1 (is_in IsOutOfWork v t m is x.0).can))
