-- A worker among several sends a block to its queue, or takes one.
use Rattle.std.proofs.Common.{◌≡◌, ◌≢◌, ℕ, ◌+◌, ◌<◌, Bool, true, false, List, [], ◌∷◌, ◌++◌, length, map, All, Some, Option, refl, sym, ap, subst, ◌∙◌, arith, zero, suc}
use Rattle.std.specs.Prelude.{slice_get, if◌then◌else◌, ◌==◌}
use Rattle.std.proofs.lemmas.List.{map-append}
use Rattle.model.specs.Destination.{Shape}
use Rattle.layout.specs.declared.place.Place.{Place}
use Rattle.block_pool.specs.BlockValue.{BlockValue}
use Rattle.pending_queues.specs.PassValue.{position_of}
use Rattle.pending_queues.specs.PendingValue.{IsSeatOf, next_export, after_export, after_take, after_none, SeatValue as QueueSeatValue}
use Rattle.scavenge.specs.Handed.{CopiesKeyValue, IsHandedFor}
use Rattle.workers.specs.Block.{Block, has_unscanned}
use Rattle.workers.specs.WorkerSteps.{IsFree, after_aside, without_oldest, after_take as after_take_of}
use Rattle.workers.specs.WorkerRun.{Exported, Took, noted, first_alone, go}
use Rattle.workers.specs.Joined.{Each}
use Rattle.workers.specs.Ordered.{InTurn, IsRising}
use Rattle.workers.specs.Ready.{IsHanded}
use Rattle.workers.proofs.ReadyLemmas.{handed_alike, handed_labelled}
use Rattle.scavenge.specs.Named.{named, IsWhole}
use Rattle.scavenge.specs.Shown.{WorkspaceValue, Begins}
use Rattle.workers_in_threads.specs.SharingValue.{SharingValue, setting_in, worker_of, labelled_from}
use Rattle.workers_in_threads.specs.IsSharing.{IsSharing, HasWorked}
use Rattle.workers_in_threads.specs.Queued.{IsQueued, positions_in}
use Rattle.workers_in_threads.proofs.Rising.{rises_more}
use Rattle.workers_in_threads.proofs.Readiness.{aside_handed}
use Rattle.workers_in_threads.proofs.Knowing.{each_more, labelled_more, labelled_length, left_here}

length-map : {X Y : Type 0} (f : X → Y) (xs : List X) → length (map f xs) ≡ length xs
length-map f [] = refl
length-map f (x ∷ xs) = ap suc (length-map f xs)

get-map : {X Y : Type 0} (f : X → Y) (xs : List X) (i : ℕ) (x : X) → slice_get xs i ≡ Some x → slice_get (map f xs) i ≡ Some (f x)
get-map f [] i x e = absurd (cc)
get-map f (y ∷ ys) zero x e = let q : y ≡ x = cc in ap (λ z. Some (f z)) q
get-map f (y ∷ ys) (suc i) x e = get-map f ys i x e

some_is : {X : Type 0} {x y : X} → Some x ≡ Some y → x ≡ y
some_is e = cc

module _ {C P A : Type 0} (fits : C → P → Type 0) (limit : C → ℕ) (known : P → ℕ → Option Place) (won : P → List (ℕ × Place)) (v : SharingValue C P A) (k : IsSharing fits limit known won v) where
  abbrev shape : Shape
  shape = v.heap.config.shape

  abbrev Handed : Block → Type 0
  Handed = IsHanded v.heap.graph v.collection.generation v.heap.config.shape v.heap.config.block_words v.workers

  abbrev pub handing : QueueSeatValue A CopiesKeyValue → WorkspaceValue → SharingValue C P A
  handing seat new = record v { seat = seat; workspace = new }

  handing_is : (seat : QueueSeatValue A CopiesKeyValue) (new : WorkspaceValue) → IsSeatOf v.queues seat → seat.index ≡ v.seat.index → new.config ≡ v.workspace.config → new.names ≡ v.workspace.names → IsQueued seat
      → HasWorked v.heap v.collection v.workers v.seat.index (known v.pass) (won v.pass) v.draws seat new.worker → IsSharing fits limit known won (handing seat new)
  handing_is seat new of index config names queued worked =
      record {
        ready = k.ready;
        member = subst (λ i. i < v.workers) (sym index) k.member;
        config = config ∙ k.config;
        names = names ∙ k.names;
        fits_cells = k.fits_cells;
        cells = k.cells;
        free = k.free;
        draws = k.draws;
        seat = of;
        lanes = k.lanes;
        key = k.key;
        queued = queued;
        worked = subst (λ i. HasWorked v.heap v.collection v.workers i (known v.pass) (won v.pass) v.draws seat new.worker) (sym index) worked;
      }

  module _ (b : BlockValue) (first : Begins v.workspace.config.shape (worker_of v).aside b) (is_whole : IsWhole v.workspace.config.shape v.workspace.config.block_words b) where
    oldest : Begins shape (worker_of v).aside b
    oldest = subst (λ c. Begins c.shape (worker_of v).aside b) k.config first

    some_aside : (worker_of v).aside ≢ []
    some_aside e = let x = sym oldest.is ∙ e in cc

    -- the block is as queues hand it over
    pub handed_for : IsHandedFor v.queues.key (next_export v.seat b)
    handed_for =
        subst (λ (key : CopiesKeyValue). IsHandedFor key (next_export v.seat b)) (sym k.key)
        (record {
          whole = subst (λ c. IsWhole c.shape c.block_words (next_export v.seat b)) k.config (record { words = is_whole.words; destination = is_whole.destination; noted = is_whole.noted; front = is_whole.front });
          copies =
              handed_labelled v.heap.graph v.collection.generation v.heap.config.shape v.heap.config.block_words 0 (named shape b) (Some (v.seat.index, length v.seat.sent))
              (handed_alike v.heap.graph v.collection.generation v.heap.config.shape v.heap.config.block_words v.workers 0 (named shape b) handed);
        })
      where
        handed : Handed (named shape b)
        handed =
            (subst (Each Handed) oldest.is
            (aside_handed v.heap v.collection k.ready v.workers v.seat.index (known v.pass) (won v.pass) v.draws v.seat (worker_of v) k.worked)).0

    sent_is : map (named shape) (after_export v.seat b).sent ≡ labelled_from v.seat.index 0 (k.worked.history.exported ++ first_alone (worker_of v).aside)
    sent_is =
        map-append (named shape) v.seat.sent (next_export v.seat b ∷ [])
        ∙ ap (λ xs. xs ++ named shape (next_export v.seat b) ∷ []) k.worked.exported
        ∙ ap (λ n. labelled_from v.seat.index 0 k.worked.history.exported ++ (let x : Block = record (named shape b) { sent = Some (v.seat.index, n) } in x) ∷ []) count
        ∙ sym (labelled_more v.seat.index 0 k.worked.history.exported (named shape b))
        ∙ ap (λ bs. labelled_from v.seat.index 0 (k.worked.history.exported ++ first_alone bs)) (sym oldest.is)
      where
        count : length v.seat.sent ≡ 0 + length k.worked.history.exported
        count = sym (length-map (named shape) v.seat.sent) ∙ ap length k.worked.exported ∙ labelled_length v.seat.index 0 k.worked.history.exported ∙ (let z : length k.worked.history.exported ≡ 0 + length k.worked.history.exported = omega arith in z)

    aside_won : (after_aside (worker_of v)).won ≡ (worker_of v).won
    aside_won = by (worker_of v).aside
      where
        by : (bs : List Block) → (without_oldest (worker_of v) bs).won ≡ (worker_of v).won
        by [] = refl
        by (x ∷ xs) = refl

    exported_worked : HasWorked v.heap v.collection v.workers v.seat.index (known v.pass) (won v.pass) v.draws (after_export v.seat b) (after_aside (worker_of v))
    exported_worked =
        record {
          history = noted (setting_in v) (worker_of v) Exported k.worked.history;
          run = go Exported k.worked.run some_aside;
          turns = (tt, k.worked.turns);
          handed = k.worked.handed;
          knows = k.worked.knows;
          won_are = k.worked.won_are ∙ sym aside_won;
          numbers = k.worked.numbers;
          drawn = k.worked.drawn;
          exported = sent_is;
          taken = k.worked.taken;
        }

    -- the block that was aside longest left for the worker's own queue
    pub exported : (new : WorkspaceValue) (seat : QueueSeatValue A CopiesKeyValue) → IsSeatOf v.queues seat → seat ≡ after_export v.seat b → new.config ≡ v.workspace.config → new.names ≡ v.workspace.names → new.worker ≡ after_aside (worker_of v) → IsSharing fits limit known won (handing seat new)
    exported new seat of s config names worker =
        handing_is seat new of (ap (λ (x : QueueSeatValue A CopiesKeyValue). x.index) s) config names
        (subst IsQueued (sym s) (record { noted = each_more (λ (x : BlockValue). length x.origins ≡ length x.objects) v.seat.sent (next_export v.seat b) k.queued.noted is_whole.noted; rises = k.queued.rises }))
        (subst (λ x. HasWorked v.heap v.collection v.workers v.seat.index (known v.pass) (won v.pass) v.draws x new.worker) (sym s)
        (subst (HasWorked v.heap v.collection v.workers v.seat.index (known v.pass) (won v.pass) v.draws (after_export v.seat b)) (sym worker) exported_worked))

  -- nothing came, but what the seat knows of its exports, and the room to put a block back
  pub stayed : (new : WorkspaceValue) (seat : QueueSeatValue A CopiesKeyValue) → IsSeatOf v.queues seat → seat.index ≡ v.seat.index → seat.sent ≡ v.seat.sent → seat.taken ≡ v.seat.taken → new.config ≡ v.workspace.config → new.names ≡ v.workspace.names → new.worker ≡ worker_of v → IsSharing fits limit known won (handing seat new)
  stayed new seat of index sent taken config names worker =
      handing_is seat new of index config names
      (record { noted = subst (Each (λ (x : BlockValue). length x.origins ≡ length x.objects)) (sym sent) k.queued.noted; rises = λ u. subst (λ bs. IsRising (positions_in u bs)) (sym taken) (k.queued.rises u) })
      (subst (HasWorked v.heap v.collection v.workers v.seat.index (known v.pass) (won v.pass) v.draws seat) (sym worker)
      (record {
        history = k.worked.history;
        run = k.worked.run;
        turns = k.worked.turns;
        handed = k.worked.handed;
        knows = k.worked.knows;
        won_are = k.worked.won_are;
        numbers = k.worked.numbers;
        drawn = k.worked.drawn;
        exported = ap (map (named shape)) sent ∙ k.worked.exported;
        taken = ap (map (named shape)) taken ∙ k.worked.taken;
      }))

  module _ (free : IsFree (worker_of v)) (exporter : ℕ) (b : BlockValue) (label : b.sent ≡ Some (exporter, position_of b)) (fact : IsHandedFor v.queues.key b) (own : exporter ≡ v.seat.index → slice_get v.seat.sent (position_of b) ≡ Some b)
      (above : All (λ (t : BlockValue). (p : ℕ) → t.sent ≡ Some (exporter, p) → p < position_of b) v.seat.taken) where
    handed : Handed (named shape b)
    handed =
        handed_alike v.heap.graph v.collection.generation v.heap.config.shape v.heap.config.block_words 0 v.workers (named shape b)
        (subst (λ (key : CopiesKeyValue). IsHanded key.heap.graph key.generation key.heap.config.shape key.heap.config.block_words 0 (named key.heap.config.shape b)) k.key fact.copies)

    pub unscanned : has_unscanned (named v.workspace.config.shape b) ≡ true
    unscanned = subst (λ c. has_unscanned (named c.shape b) ≡ true) (sym k.config) handed.some

    pub whole : IsWhole v.workspace.config.shape v.workspace.config.block_words b
    whole = subst (λ c. IsWhole c.shape c.block_words b) (sym k.config) (subst (λ (key : CopiesKeyValue). IsWhole key.heap.config.shape key.heap.config.block_words b) k.key fact.whole)

    -- a block of its own queue is one that it exported before
    in_turn : InTurn (setting_in v) v.seat.index (Took (named shape b)) k.worked.history
    in_turn i e =
        let at : (exporter, position_of b) ≡ (v.seat.index, i) = some_is (sym label ∙ e) in
        let mine : exporter ≡ v.seat.index = ap (λ (p : ℕ × ℕ). p.0) at in
        let here : position_of b ≡ i = ap (λ (p : ℕ × ℕ). p.1) at in
        let there : slice_get v.seat.sent i ≡ Some b = subst (λ j. slice_get v.seat.sent j ≡ Some b) here (own mine) in
        left_here v.seat.index k.worked.history.exported i (named shape b) (ap (λ xs. slice_get xs i) (sym k.worked.exported) ∙ get-map (named shape) v.seat.sent i b there)

    took_worked : HasWorked v.heap v.collection v.workers v.seat.index (known v.pass) (won v.pass) v.draws (after_take v.seat b) (after_take_of (worker_of v) (named shape b))
    took_worked =
        record {
          history = noted (setting_in v) (worker_of v) (Took (named shape b)) k.worked.history;
          run = go (Took (named shape b)) k.worked.run (free, handed.some);
          turns = (in_turn, k.worked.turns);
          handed = each_more Handed k.worked.history.taken (named shape b) k.worked.handed handed;
          knows = k.worked.knows;
          won_are = k.worked.won_are;
          numbers = k.worked.numbers;
          drawn = k.worked.drawn;
          exported = k.worked.exported;
          taken = map-append (named shape) v.seat.taken (b ∷ []) ∙ ap (λ xs. xs ++ named shape b ∷ []) k.worked.taken;
        }

    -- the block is in hand
    pub took : (new : WorkspaceValue) (seat : QueueSeatValue A CopiesKeyValue) → IsSeatOf v.queues seat → seat ≡ after_take v.seat b → new.config ≡ v.workspace.config → new.names ≡ v.workspace.names → new.worker ≡ after_take_of (worker_of v) (named v.workspace.config.shape b) → IsSharing fits limit known won (handing seat new)
    took new seat of s config names worker =
        handing_is seat new of (ap (λ (x : QueueSeatValue A CopiesKeyValue). x.index) s) config names
        (subst IsQueued (sym s) (record { noted = k.queued.noted; rises = rises_more v.seat.taken b exporter (position_of b) label above k.queued.rises }))
        (subst (λ x. HasWorked v.heap v.collection v.workers v.seat.index (known v.pass) (won v.pass) v.draws x new.worker) (sym s)
        (subst (HasWorked v.heap v.collection v.workers v.seat.index (known v.pass) (won v.pass) v.draws (after_take v.seat b)) (sym (worker ∙ ap (λ c. after_take_of (worker_of v) (named c.shape b)) k.config)) took_worked))

-- where nothing was found, the seat is as it was, but for what it knows of its exports
module _ {A : Type 0} (s : QueueSeatValue A CopiesKeyValue) (exporter : ℕ) where
  cases : (b : Bool) → (F : QueueSeatValue A CopiesKeyValue → Type 0) → F (record s { cleared = length s.sent }) → F s → F (if b then (record s { cleared = length s.sent }) else s)
  cases true F x y = x
  cases false F x y = y

  pub none_index : (after_none s exporter).index ≡ s.index
  none_index = cases (s.index == exporter) (λ x. x.index ≡ s.index) refl refl

  pub none_sent : (after_none s exporter).sent ≡ s.sent
  none_sent = cases (s.index == exporter) (λ x. x.sent ≡ s.sent) refl refl

  pub none_taken : (after_none s exporter).taken ≡ s.taken
  none_taken = cases (s.index == exporter) (λ x. x.taken ≡ s.taken) refl refl
