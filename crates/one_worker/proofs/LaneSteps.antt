-- The worker exports a block and takes it back: what lasts, and what the system sees.
use Rattle.std.proofs.Common.{◌≡◌, ◌≢◌, ℕ, zero, suc, ◌+◌, ◌≤◌, true, false, List, [], ◌∷◌, ◌++◌, length, map, drop, Option, Some, None, refl, sym, ap, subst, ◌∙◌, arith, true≢false}
use Rattle.std.specs.Prelude.{IsSome, slice_get, slice_set, slice_index_or}
use Rattle.std.specs.Ordering.{nat_cmp}
use Rattle.std.specs.FinMap.{find}
use Rattle.std.proofs.lemmas.List.{map-append, drop-append-le}
use Rattle.std.proofs.lemmas.Option.{slice_get_within}
use Rattle.model.specs.Destination.{Shape}
use Rattle.layout.specs.Place.{IsLargeAt}
use Rattle.block_pool.specs.BlockValue.{BlockValue}
use Rattle.pending_queues.specs.Labelled.{labelled}
use Rattle.pending_queues.specs.PlainValue.{PlainLane, empty_lane, lane_at, front_of, with_export, with_taker, after_export, after_take}
use Rattle.pending_queues.specs.PlainValue.{PlainValue as PlainQueuesValue}
use Rattle.scavenge.specs.Handed.{CopiesKeyValue, IsHandedFor}
use Rattle.workers.specs.Block.{Block, has_unscanned}
use Rattle.workers.specs.Worker.{Worker}
use Rattle.workers.specs.WorkerSteps.{IsFree, after_aside, after_take as after_take_of, without_oldest}
use Rattle.workers.specs.WorkerRun.{Exported, Took}
use Rattle.workers.specs.System.{System, Event, Export, Take, opening_worker}
use Rattle.workers.specs.Joined.{Each}
use Rattle.workers.specs.Ready.{IsHanded}
use Rattle.model.specs.Collected.{IsLiveOrOlder}
use Rattle.workers.proofs.Starts.{opens, opening_each}
use Rattle.workers.proofs.ReadyRuns.{exports_handed}
use Rattle.workers.proofs.ReadyLemmas.{handed_alike, handed_labelled}
use Rattle.scavenge.specs.Named.{named, IsWhole}
use Rattle.scavenge.specs.Shown.{WorkspaceValue, Begins}
use Rattle.one_worker.specs.SerialValue.{SerialValue, lane_of, positions_below, system_of, setting_in, targets_in, destinations_in, Goes}
use Rattle.scavenge.specs.Waiting.{waiting_in}
use Rattle.one_worker.specs.IsSerial.{IsSerial}
use Rattle.one_worker.proofs.Keeping.{worked_on}
use Rattle.one_worker.proofs.Readiness.{start_roomy}
use Rattle.scavenge.proofs.Starts.{targets_live}

length-map : {A B : Type 0} (f : A → B) (xs : List A) → length (map f xs) ≡ length xs
length-map f [] = refl
length-map f (x ∷ xs) = ap suc (length-map f xs)

-- the only lane is replaced
only_lane : (lanes : List PlainLane) (x d : PlainLane) → length lanes ≡ 1 → slice_index_or (slice_set lanes 0 x) 0 d ≡ x
only_lane [] x d e = absurd (omega (arith, e))
only_lane (y ∷ ys) x d e = refl

only_length : (lanes : List PlainLane) (x : PlainLane) → length lanes ≡ 1 → length (slice_set lanes 0 x) ≡ 1
only_length [] x e = absurd (omega (arith, e))
only_length (y ∷ ys) x e = e

drop_next : {A : Type 0} (xs : List A) (n : ℕ) (x : A) → slice_get xs n ≡ Some x → drop n xs ≡ x ∷ drop (n + 1) xs
drop_next [] n x e = absurd (cc)
drop_next (y ∷ xs) zero x e = let q : y ≡ x = cc in ap (λ z. z ∷ xs) q
drop_next (y ∷ xs) (suc n) x e = let k : suc n + 1 ≡ suc (n + 1) = omega arith in drop_next xs n x e ∙ ap (λ j. x ∷ drop j (y ∷ xs)) (sym k)

drop_none : {A : Type 0} (xs : List A) (n : ℕ) → slice_get xs n ≡ None → drop n xs ≡ []
drop_none [] zero e = refl
drop_none [] (suc n) e = refl
drop_none (y ∷ xs) zero e = absurd (cc)
drop_none (y ∷ xs) (suc n) e = drop_none xs n e

-- what holds of each element by its place, holds with one more
places_more : {A : Type 0} (P : ℕ → A → Type 0) (xs : List A) (x : A) → ((i : ℕ) (y : A) → slice_get xs i ≡ Some y → P i y) → P (length xs) x → (i : ℕ) (y : A) → slice_get (xs ++ x ∷ []) i ≡ Some y → P i y
places_more P [] x k h zero y e = let q : x ≡ y = cc in subst (P 0) q h
places_more P [] x k h (suc i) y e = absurd (cc)
places_more P (z ∷ zs) x k h zero y e = k zero y e
places_more P (z ∷ zs) x k h (suc i) y e = places_more (λ j. P (suc j)) zs x (λ j. k (suc j)) h i y e

length_more : {A : Type 0} (xs : List A) (x : A) → length (xs ++ x ∷ []) ≡ suc (length xs)
length_more [] x = refl
length_more (y ∷ ys) x = ap suc (length_more ys x)

each_more : {A : Type 0} (P : A → Type 0) (xs : List A) (x : A) → Each P xs → P x → Each P (xs ++ x ∷ [])
each_more P [] x h p = (p, tt)
each_more P (y ∷ ys) x h p = (h.0, each_more P ys x h.1 p)

aside_won : (w : Worker) → (after_aside w).won ≡ w.won
aside_won w = go w.aside
  where
    go : (bs : List Block) → (without_oldest w bs).won ≡ w.won
    go [] = refl
    go (b ∷ bs) = refl

-- the worker's part and its lane changed
abbrev pub with_lane : SerialValue → WorkspaceValue → PlainQueuesValue CopiesKeyValue → ℕ → SerialValue
with_lane v new queues seat = record v { workspace = new; queues = queues; seat = seat }

-- a block that was aside, as queues hand it over
pub handed_for : (v : SerialValue) (b : BlockValue) (position : ℕ) → IsSerial v → IsWhole v.workspace.config.shape v.workspace.config.block_words b
    → IsHanded v.heap.graph v.collection.generation v.heap.config.shape v.heap.config.block_words 1 (named v.workspace.config.shape b) → IsHandedFor v.queues.key (labelled 0 position b)
handed_for v b position k whole handed =
    subst (λ (key : CopiesKeyValue). IsHandedFor key (labelled 0 position b)) (sym k.queue.key)
    (record {
      whole = subst (λ c. IsWhole c.shape c.block_words (labelled 0 position b)) k.config (record { words = whole.words; destination = whole.destination; noted = whole.noted; front = whole.front });
      copies = subst (λ c. IsHanded v.heap.graph v.collection.generation v.heap.config.shape v.heap.config.block_words 0 (named c.shape (labelled 0 position b))) k.config
          (handed_labelled v.heap.graph v.collection.generation v.heap.config.shape v.heap.config.block_words 0 (named v.workspace.config.shape b) (Some (0, position))
          (handed_alike v.heap.graph v.collection.generation v.heap.config.shape v.heap.config.block_words 1 0 (named v.workspace.config.shape b) handed));
    })

-- the system whose worker and lane are these
abbrev seen_as : SerialValue → Worker → List (ℕ × ℕ) → PlainLane → System
seen_as v w won lane =
    record (system_of v) {
      forwarded = won;
      workers = w ∷ [];
      queues = map (named v.workspace.config.shape) (waiting_in lane) ∷ [];
      exported = map (named v.workspace.config.shape) lane.sent ∷ [];
      taken = positions_below (length lane.takers) ∷ [];
    }

abbrev pub IsNext : SerialValue → Event → SerialValue → Type 0
IsNext v event next = IsSerial next × Goes event v next

module _ (v : SerialValue) (b : BlockValue) (new : WorkspaceValue) (queues : PlainQueuesValue CopiesKeyValue) (seat : ℕ) (k : IsSerial v) where
  shape : Shape
  shape = v.workspace.config.shape

  -- the block that was aside longest leaves
  module _ (first : Begins v.workspace.config.shape v.workspace.worker.aside b) (new_is : new ≡ record v.workspace { worker = after_aside v.workspace.worker; spare = true }) (queues_are : queues ≡ after_export v.queues v.seat b) (seat_is : seat ≡ v.seat) (all_noted : length b.origins ≡ length b.objects) where
    label : BlockValue
    label = labelled 0 (length (lane_of v).sent) b

    lane : PlainLane
    lane = with_export (lane_of v) 0 b

    lane_is : lane_at queues 0 ≡ lane
    unfolding lane
    lane_is =
        ap (λ (q : PlainQueuesValue CopiesKeyValue). lane_at q 0) queues_are
        ∙ ap (λ t. slice_index_or (slice_set v.queues.lanes t (with_export (lane_at v.queues t) t b)) 0 empty_lane) k.queue.seat
        ∙ only_lane v.queues.lanes (with_export (lane_of v) 0 b) empty_lane k.queue.lanes

    some_aside : v.workspace.worker.aside ≢ []
    some_aside e = let x = sym first.is ∙ e in cc

    queue_is : map (named v.workspace.config.shape) (waiting_in (with_export (lane_of v) 0 b))
        ≡ map (named v.workspace.config.shape) (waiting_in (lane_of v)) ++ (let x : Block = record (named v.workspace.config.shape b) { sent = Some (0, length (map (named v.workspace.config.shape) (lane_of v).sent)) } in x) ∷ []
    queue_is =
        ap (map (named v.workspace.config.shape)) (drop-append-le (length (lane_of v).takers) (lane_of v).sent (labelled 0 (length (lane_of v).sent) b ∷ []) k.queue.taken)
        ∙ map-append (named v.workspace.config.shape) (waiting_in (lane_of v)) (labelled 0 (length (lane_of v).sent) b ∷ [])
        ∙ ap (λ n. map (named v.workspace.config.shape) (waiting_in (lane_of v)) ++ (let x : Block = record (named v.workspace.config.shape b) { sent = Some (0, n) } in x) ∷ []) (sym (length-map (named v.workspace.config.shape) (lane_of v).sent))

    exported_is : map (named v.workspace.config.shape) (with_export (lane_of v) 0 b).sent
        ≡ map (named v.workspace.config.shape) (lane_of v).sent ++ (let x : Block = record (named v.workspace.config.shape b) { sent = Some (0, length (map (named v.workspace.config.shape) (lane_of v).sent)) } in x) ∷ []
    exported_is =
        map-append (named v.workspace.config.shape) (lane_of v).sent (labelled 0 (length (lane_of v).sent) b ∷ [])
        ∙ ap (λ n. map (named v.workspace.config.shape) (lane_of v).sent ++ (let x : Block = record (named v.workspace.config.shape b) { sent = Some (0, n) } in x) ∷ []) (sym (length-map (named v.workspace.config.shape) (lane_of v).sent))

    pub exported : IsNext v (Export 0) (with_lane v new queues seat)
    unfolding lane
    exported = (
      record {
        ready = k.ready;
        config = ap (λ (x : WorkspaceValue). x.config) new_is ∙ k.config;
        names = ap (λ (x : WorkspaceValue). x.names) new_is ∙ k.names;
        claim = subst (λ p. IsLargeAt p 0) (sym (ap (λ (x : WorkspaceValue). x.claim) new_is)) k.claim;
        cells = record { fits = k.cells.fits; count = k.cells.count; passes = k.cells.passes; shown = λ name number of. k.cells.shown name number of ∙ ap (λ ws. find nat_cmp name ws) (sym (ap (λ (x : WorkspaceValue). x.worker.won) new_is ∙ aside_won v.workspace.worker)) };
        draws = record { free = k.draws.free; seats = k.draws.seats; seat = k.draws.seat };
        queue = record {
          key = ap (λ (q : PlainQueuesValue CopiesKeyValue). q.key) queues_are ∙ k.queue.key;
          lanes = ap (λ (q : PlainQueuesValue CopiesKeyValue). length q.lanes) queues_are ∙ ap (λ t. length (slice_set v.queues.lanes t (with_export (lane_at v.queues t) t b))) k.queue.seat ∙ only_length v.queues.lanes (with_export (lane_of v) 0 b) k.queue.lanes;
          seat = seat_is ∙ k.queue.seat;
          taken = subst (λ (x : PlainLane). length x.takers ≤ length x.sent) (sym lane_is) (omega (arith, k.queue.taken, length_more (lane_of v).sent (labelled 0 (length (lane_of v).sent) b)));
          labels = subst (λ (x : PlainLane). (position : ℕ) (block : BlockValue) → slice_get x.sent position ≡ Some block → block.sent ≡ Some (0, position)) (sym lane_is)
              (places_more (λ position (block : BlockValue). block.sent ≡ Some (0, position)) (lane_of v).sent (labelled 0 (length (lane_of v).sent) b) k.queue.labels refl);
          noted = subst (λ (x : PlainLane). (position : ℕ) (block : BlockValue) → slice_get x.sent position ≡ Some block → length block.origins ≡ length block.objects) (sym lane_is)
              (places_more (λ _ (block : BlockValue). length block.origins ≡ length block.objects) (lane_of v).sent (labelled 0 (length (lane_of v).sent) b) k.queue.noted all_noted);
        };
        worked = let h = worked_on v Exported new.worker k.worked some_aside (ap (λ (x : WorkspaceValue). x.worker) new_is) (λ h t. t) in record { history = h.history; run = h.run; taken = h.taken };
      },
      record {
        heap = refl;
        collection = refl;
        step = record {
          worker = v.workspace.worker;
          at = record { is = refl; awake = refl };
          block = named v.workspace.config.shape b;
          rest = first.rest;
          oldest = first.is;
          sent = map (named v.workspace.config.shape) (lane_of v).sent;
          sent_is = refl;
          change =
              ap (λ n. system_of (with_lane v n queues seat)) new_is
              ∙ ap (λ x. seen_as v (after_aside v.workspace.worker) (after_aside v.workspace.worker).won x) lane_is
              ∙ ap (λ x. seen_as v (after_aside v.workspace.worker) x (with_export (lane_of v) 0 b)) (aside_won v.workspace.worker)
              ∙ ap (λ q. (let s : System = record (seen_as v (after_aside v.workspace.worker) v.workspace.worker.won (with_export (lane_of v) 0 b)) { queues = q ∷ [] } in s)) queue_is
              ∙ ap (λ q. (let s : System = record (system_of v) { workers = after_aside v.workspace.worker ∷ []; queues = (map (named v.workspace.config.shape) (waiting_in (lane_of v)) ++ (let x : Block = record (named v.workspace.config.shape b) { sent = Some (0, length (map (named v.workspace.config.shape) (lane_of v).sent)) } in x) ∷ []) ∷ []; exported = q ∷ [] } in s)) exported_is;
        };
      },
    )

-- what is aside is as workers hand it on
pub aside_handed : (v : SerialValue) (b : BlockValue) → IsSerial v → Begins v.workspace.config.shape v.workspace.worker.aside b
    → IsHanded v.heap.graph v.collection.generation v.heap.config.shape v.heap.config.block_words 1 (named v.workspace.config.shape b)
aside_handed v b k first =
    let starts = opening_each (setting_in v) (IsLiveOrOlder v.heap.graph v.collection.generation) (destinations_in v) 1 (targets_in v) (targets_live v.heap v.collection k.ready) 0 1 in
    let all = exports_handed v.heap.graph v.collection.generation v.heap.config.shape v.heap.config.block_words 1 (opening_worker (destinations_in v) 1 (targets_in v) 0) v.workspace.worker k.worked.history
    (opens (destinations_in v) 1 (targets_in v) 0) (start_roomy v k.ready) starts.0 k.worked.taken k.worked.run in
    (subst (Each (IsHanded v.heap.graph v.collection.generation v.heap.config.shape v.heap.config.block_words 1)) first.is all.0).0

-- the worker's part is as it was, but for the room to put a block back
pub put_back : (v : SerialValue) (new : WorkspaceValue) (queues : PlainQueuesValue CopiesKeyValue) (seat : ℕ) → IsSerial v → new ≡ record v.workspace { spare = false } → queues ≡ v.queues → seat ≡ v.seat → IsSerial (with_lane v new queues seat)
put_back v new queues seat k n q s =
    subst (λ x. IsSerial (with_lane v x queues seat)) (sym n) (subst (λ x. IsSerial (with_lane v (record v.workspace { spare = false }) x seat)) (sym q) (subst (λ x. IsSerial (with_lane v (record v.workspace { spare = false }) v.queues x)) (sym s)
    (record {
      ready = k.ready;
      config = k.config;
      names = k.names;
      claim = k.claim;
      cells = record { fits = k.cells.fits; count = k.cells.count; passes = k.cells.passes; shown = k.cells.shown };
      draws = record { free = k.draws.free; seats = k.draws.seats; seat = k.draws.seat };
      queue = record { key = k.queue.key; lanes = k.queue.lanes; seat = k.queue.seat; taken = k.queue.taken; labels = k.queue.labels; noted = k.queue.noted };
      worked = record { history = k.worked.history; run = k.worked.run; taken = k.worked.taken };
    })))

-- the block at the front is taken in hand
module _ (v : SerialValue) (b : BlockValue) (new : WorkspaceValue) (queues : PlainQueuesValue CopiesKeyValue) (seat : ℕ) (k : IsSerial v)
    (free : IsFree v.workspace.worker) (front : front_of (lane_of v) ≡ Some b) (fact : IsHandedFor v.queues.key b)
    (new_is : new ≡ record v.workspace { worker = after_take_of v.workspace.worker (named v.workspace.config.shape b) }) (queues_are : queues ≡ after_take v.queues 0 v.seat (Some b)) (seat_is : seat ≡ v.seat) where
  one_lane : lane_at queues 0 ≡ with_taker (lane_of v) v.seat (Some b)
  one_lane = ap (λ (q : PlainQueuesValue CopiesKeyValue). lane_at q 0) queues_are ∙ only_lane v.queues.lanes (with_taker (lane_of v) v.seat (Some b)) empty_lane k.queue.lanes

  one_more : length ((lane_of v).takers ++ v.seat ∷ []) ≡ suc (length (lane_of v).takers)
  one_more = length_more (lane_of v).takers v.seat

  handed : IsHanded v.heap.graph v.collection.generation v.heap.config.shape v.heap.config.block_words 1 (named v.workspace.config.shape b)
  handed =
      handed_alike v.heap.graph v.collection.generation v.heap.config.shape v.heap.config.block_words 0 1 (named v.workspace.config.shape b)
      (subst (λ c. IsHanded v.heap.graph v.collection.generation v.heap.config.shape v.heap.config.block_words 0 (named c.shape b)) (sym k.config)
      (subst (λ (key : CopiesKeyValue). IsHanded key.heap.graph key.generation key.heap.config.shape key.heap.config.block_words 0 (named key.heap.config.shape b)) k.queue.key fact.copies))

  pub unscanned : has_unscanned (named v.workspace.config.shape b) ≡ true
  unscanned = handed.some

  pub whole : IsWhole v.workspace.config.shape v.workspace.config.block_words b
  whole = subst (λ c. IsWhole c.shape c.block_words b) (sym k.config) (subst (λ (key : CopiesKeyValue). IsWhole key.heap.config.shape key.heap.config.block_words b) k.queue.key fact.whole)

  pub took : IsNext v (Take 0 0) (with_lane v new queues seat)
  took = (
    record {
      ready = k.ready;
      config = ap (λ (x : WorkspaceValue). x.config) new_is ∙ k.config;
      names = ap (λ (x : WorkspaceValue). x.names) new_is ∙ k.names;
      claim = subst (λ p. IsLargeAt p 0) (sym (ap (λ (x : WorkspaceValue). x.claim) new_is)) k.claim;
      cells = record { fits = k.cells.fits; count = k.cells.count; passes = k.cells.passes; shown = λ name number of. k.cells.shown name number of ∙ ap (λ ws. find nat_cmp name ws) (sym (ap (λ (x : WorkspaceValue). x.worker.won) new_is)) };
      draws = record { free = k.draws.free; seats = k.draws.seats; seat = k.draws.seat };
      queue = record {
        key = ap (λ (q : PlainQueuesValue CopiesKeyValue). q.key) queues_are ∙ k.queue.key;
        lanes = ap (λ (q : PlainQueuesValue CopiesKeyValue). length q.lanes) queues_are ∙ only_length v.queues.lanes (with_taker (lane_of v) v.seat (Some b)) k.queue.lanes;
        seat = seat_is ∙ k.queue.seat;
        taken = subst (λ (x : PlainLane). length x.takers ≤ length x.sent) (sym one_lane) (let l = slice_get_within (lane_of v).sent (length (lane_of v).takers) b front in omega (arith, l, one_more));
        labels = subst (λ (x : PlainLane). (position : ℕ) (block : BlockValue) → slice_get x.sent position ≡ Some block → block.sent ≡ Some (0, position)) (sym one_lane) k.queue.labels;
        noted = subst (λ (x : PlainLane). (position : ℕ) (block : BlockValue) → slice_get x.sent position ≡ Some block → length block.origins ≡ length block.objects) (sym one_lane) k.queue.noted;
      };
      worked =
          let h = worked_on v (Took (named v.workspace.config.shape b)) new.worker k.worked (free, unscanned) (ap (λ (x : WorkspaceValue). x.worker) new_is)
          (λ h t. each_more (IsHanded v.heap.graph v.collection.generation v.heap.config.shape v.heap.config.block_words 1) h.taken (named v.workspace.config.shape b) t handed) in
          record { history = h.history; run = h.run; taken = h.taken };
    },
    record {
      heap = refl;
      collection = refl;
      step = record {
        worker = v.workspace.worker;
        at = record { is = refl; awake = refl };
        free = free;
        block = named v.workspace.config.shape b;
        rest = map (named v.workspace.config.shape) (drop (length (lane_of v).takers + 1) (lane_of v).sent);
        front = ap (λ xs. Some (map (named v.workspace.config.shape) xs)) (drop_next (lane_of v).sent (length (lane_of v).takers) b front);
        position = length (lane_of v).takers;
        labelled = k.queue.labels (length (lane_of v).takers) b front;
        change =
            ap (λ n. system_of (with_lane v n queues seat)) new_is
            ∙ ap (λ x. seen_as v (after_take_of v.workspace.worker (named v.workspace.config.shape b)) v.workspace.worker.won x) one_lane
            ∙ ap (λ n. (let s : System = record (system_of v) { workers = after_take_of v.workspace.worker (named v.workspace.config.shape b) ∷ []; queues = map (named v.workspace.config.shape) (drop n (lane_of v).sent) ∷ []; taken = positions_below n ∷ [] } in s)) one_more
            ∙ ap (λ n. (let s : System = record (system_of v) { workers = after_take_of v.workspace.worker (named v.workspace.config.shape b) ∷ []; queues = map (named v.workspace.config.shape) (drop n (lane_of v).sent) ∷ []; taken = positions_below (suc (length (lane_of v).takers)) ∷ [] } in s)) (let e : suc (length (lane_of v).takers) ≡ length (lane_of v).takers + 1 = omega arith in e);
      };
    },
  )

-- a block waits exactly where there is one at the front
pub some_waits : (v : SerialValue) → IsSome (front_of (lane_of v)) → waiting_in (lane_of v) ≢ []
some_waits v is e = go (front_of (lane_of v)) refl is
  where
    go : (o : Option BlockValue) → front_of (lane_of v) ≡ o → IsSome o → ⊥
    go None at s = absurd (true≢false (sym s))
    go (Some b) at s = let x = sym (drop_next (lane_of v).sent (length (lane_of v).takers) b at) ∙ e in cc

pub none_waits : (v : SerialValue) → front_of (lane_of v) ≡ None → waiting_in (lane_of v) ≡ []
none_waits v e = drop_none (lane_of v).sent (length (lane_of v).takers) e

pub waiting_some : (v : SerialValue) → waiting_in (lane_of v) ≢ [] → IsSome (front_of (lane_of v))
waiting_some v ne = go (front_of (lane_of v)) refl
  where
    go : (o : Option BlockValue) → front_of (lane_of v) ≡ o → IsSome (front_of (lane_of v))
    go None at = absurd (ne (none_waits v at))
    go (Some b) at = subst IsSome (sym at) refl
