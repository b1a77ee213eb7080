-- What threads report is what they brought, as a state in which all ended.
use Rattle.std.proofs.Common.{◌≡◌, ℕ, zero, suc, ◌+◌, ◌-◌, ◌*◌, ◌/◌, ◌<◌, ◌&&◌, Bool, true, false, List, [], ◌∷◌, ◌++◌, All, map, min, length, Option, Some, None, refl, sym, ap, subst, ◌∙◌, arith, nat_eq, nat_lt, eqb-true, true≢false, is_some}
use Rattle.std.proofs.lemmas.List.{map-append}
use Rattle.std.proofs.lemmas.Bool.{lt-ltb}
use Rattle.std.proofs.lemmas.Option.{slice_get_within, get_or_from_slice_get}
use Rattle.std.specs.Prelude.{slice_get, slice_index_or, flat_map, unwrap_or, IsSome, IsSomeAnd, if◌then◌else◌}
use Rattle.std.specs.List.{enumerate_from, range_with_len, sum_by}
use Rattle.std.specs.Option.{option_map_or, option_and_then}
use Rattle.model.specs.Graph.{is_large}
use Rattle.model.specs.Destination.{Shape, dest_count}
use Rattle.layout.specs.declared.place.Place.{Place}
use Rattle.block_pool.specs.BlockValue.{BlockValue}
use Rattle.pending_queues.specs.declared.exports.deliveries.Delivery.{Delivery as Outcome}
use Rattle.pending_queues.specs.PendingValue.{SeatValue as QueueSeatValue}
use Rattle.pending_queues.specs.Labelled.{times_at}
use Rattle.pending_queues.specs.Delivered.{IsDelivered, IsLabelledBelow, names_taker, is_taker}
use Rattle.pending_queues.proofs.Unique.{sum-total}
use Rattle.steps.specs.HeapValue.{HeapValue}
use Rattle.steps.specs.CollectionValue.{CollectionValue, target_of_slot}
use Rattle.steps.specs.ReportValue.{WorkerLists}
use Rattle.steps.specs.declared.heap_values.report.Delivery.{Delivery}
use Rattle.heap.proofs.SoundHeap.{heap_empty}
use Rattle.scavenge.specs.Handed.{CopiesKeyValue}
use Rattle.scavenge.specs.Named.{named}
use Rattle.workers.specs.Block.{Block, has_unscanned}
use Rattle.layout.specs.Place.{small_word}
use Rattle.workers.specs.Setting.{is_large_name}
use Rattle.workers.specs.Worker.{Worker}
use Rattle.workers.specs.WorkerSteps.{IsOutOfWork}
use Rattle.workers.specs.System.{opening_worker}
use Rattle.workers.specs.Total.{total, one_if, times}
use Rattle.workers.specs.Joined.{Each, Part, HasRun, blocks_of, deliveries, is_sent}
use Rattle.workers.specs.Kept.{IsLeft}
use Rattle.workers.specs.Ordered.{IsRising, in_block, rests}
use Rattle.workers.specs.Scans.{ScansInBlocks}
use Rattle.workers.specs.Taken.{AreTakenInOrder, takings, positions_of}
use Rattle.workers.specs.Lawful.{AllEnded}
use Rattle.workers.specs.Finish.{NothingLeft}
use Rattle.workers.proofs.Kept.{kept}
use Rattle.workers.proofs.Scans.{parts_scan_in_block}
use Rattle.settling.specs.Together.{label_of, IsDelivery, AreDelivered}
use Rattle.settling.specs.Telling.{delivery_of, deliveries_of, all_deliveries}
use Rattle.settling.proofs.Blocks.{named_length, stands_has}
use Rattle.settling.proofs.EndedLists.{each_place}
use Rattle.settling.proofs.Parted.{Each-append}
use Rattle.workers_in_threads.specs.SharingValue.{setting_for, labelled_from}
use Rattle.workers_in_threads.specs.Queued.{position_first, positions_in}
use Rattle.workers_in_threads.specs.Threads.{ThreadValue, HasEnded, Gathered, seats_of}
use Rattle.workers_in_threads.specs.Reported.{Reported}
use Rattle.workers_in_threads.specs.Reports.{exports_from, label_first, labels_on, finals_of, state_of, ReportsApart}
use Rattle.workers_in_threads.proofs.Lists.{all_each, each_get, get-map, get-some, length-map, total-map, delivered-is}
use Rattle.workers_in_threads.proofs.Back.{each_all}
use Rattle.workers_in_threads.proofs.Knowing.{left_here, labelled_length}
use Rattle.workers_in_threads.proofs.LastPlaces.{stand_in_order, each_unscanned}
use Rattle.workers_in_threads.proofs.Parts.{Is, part_of, finals_are, parts_length, part_first}
use Rattle.workers_in_threads.proofs.Joined.{parts, joined, brought, turns, delivered_each, labels_each, deliveries_total}
use Rattle.workers_in_threads.specs.Threads.{placed_in}

some_is : {X : Type 0} {x y : X} → Some x ≡ Some y → x ≡ y
some_is e = cc

-- the label first, or none
first_labels : (u : ℕ) (o : Option (ℕ × ℕ)) (ls : List (ℕ × ℕ)) → positions_of u (label_first o ls) ≡ position_first u o (positions_of u ls)
first_labels u None ls = refl
first_labels u (Some l) ls = refl

positions_are : (shape : Shape) (u : ℕ) (bs : List BlockValue) → positions_of u (labels_on (map (named shape) bs)) ≡ positions_in u bs
positions_are shape u [] = refl
positions_are shape u (b ∷ bs) = first_labels u b.sent (labels_on (map (named shape) bs)) ∙ ap (position_first u b.sent) (positions_are shape u bs)

-- what holds of each label
each_label : (F : ℕ × ℕ → Type 0) (shape : Shape) (bs : List BlockValue) → Each (λ (b : BlockValue). IsSomeAnd b.sent F) bs → Each F (labels_on (map (named shape) bs))
each_label F shape [] h = tt
each_label F shape (b ∷ bs) h = by b.sent h.0 (each_label F shape bs h.1)
  where
    by : (o : Option (ℕ × ℕ)) → IsSomeAnd o F → Each F (labels_on (map (named shape) bs)) → Each F (label_first o (labels_on (map (named shape) bs)))
    by None s r = r
    by (Some l) s r = (s, r)

-- how often a label stands there
abbrev label_times : ℕ → ℕ → List (ℕ × ℕ) → ℕ
label_times u i ls = total (λ (e : ℕ × ℕ). one_if (nat_eq e.0 u && nat_eq e.1 i)) ls

taken_here : (u i : ℕ) (bs : List Block) → label_times u i (labels_on bs) ≡ deliveries u i bs
taken_here u i [] = refl
taken_here u i (b ∷ bs) = by b.sent ∙ ap (λ n. one_if (is_sent u i b.sent) + n) (taken_here u i bs)
  where
    by : (o : Option (ℕ × ℕ)) → label_times u i (label_first o (labels_on bs)) ≡ one_if (is_sent u i o) + label_times u i (labels_on bs)
    by None = omega arith
    by (Some l) = refl

-- a label that stands there has a place
label_found : (u i : ℕ) (ls : List (ℕ × ℕ)) → 0 < label_times u i ls → (place : ℕ) × (slice_get ls place ≡ Some (u, i))
label_found u i [] l = absurd (omega (arith, l))
label_found u i (e ∷ ls) l = by (nat_eq e.0 u) (nat_eq e.1 i) refl refl (λ none. label_found u i ls (omega (arith, l, none)))
  where
    by : (a b : Bool) → nat_eq e.0 u ≡ a → nat_eq e.1 i ≡ b → (one_if (nat_eq e.0 u && nat_eq e.1 i) ≡ 0 → (place : ℕ) × (slice_get ls place ≡ Some (u, i))) → (place : ℕ) × (slice_get (e ∷ ls) place ≡ Some (u, i))
    by true true x y rest = (0, ap (λ k. Some (k, e.1)) (eqb-true e.0 u x) ∙ ap (λ k. Some (u, k)) (eqb-true e.1 i y))
    by true false x y rest = let r = rest (ap (λ t. one_if (t && nat_eq e.1 i)) x ∙ ap (λ t. one_if (true && t)) y) in (suc r.0, r.1)
    by false b x y rest = let r = rest (ap (λ t. one_if (t && nat_eq e.1 i)) x) in (suc r.0, r.1)

rests_none : {X : Type 0} (xs : List X) → rests (length xs) xs ≡ []
rests_none [] = refl
rests_none (x ∷ xs) = rests_none xs

-- one of the terms of a sum is not 0
picked : {X : Type 0} (F : X → ℕ) (xs : List X) → 0 < total F xs → (v : ℕ) × ((x : X) × ((slice_get xs v ≡ Some x) × (0 < F x)))
picked F [] l = absurd (omega (arith, l))
picked {X} F (x ∷ xs) l = by (F x) refl (λ e. picked F xs (omega (arith, l, e)))
  where
    by : (k : ℕ) → F x ≡ k → (F x ≡ 0 → (v : ℕ) × ((y : X) × ((slice_get xs v ≡ Some y) × (0 < F y)))) → (v : ℕ) × ((y : X) × ((slice_get (x ∷ xs) v ≡ Some y) × (0 < F y)))
    by zero e rest = let r = rest e in (suc r.0, r.1)
    by (suc k) e rest = (0, (x, (refl, omega (arith, e))))

-- the taker that is named
taker_is : (v : ℕ) (o : Option ℕ) → 0 < is_taker v o → o ≡ Some v
taker_is v None l = absurd (omega (arith, l))
taker_is v (Some t) l = by (nat_eq t v) refl
  where
    by : (b : Bool) → nat_eq t v ≡ b → Some t ≡ Some v
    by true e = ap (λ k. Some k) (eqb-true t v e)
    by false e = let z : is_taker v (Some t) ≡ 0 = ap (λ b. if b then 1 else 0) e in absurd (omega (arith, l, z))

-- the labels of one exporter, and of all
lane_labels : (u i : ℕ) (told : List Outcome) → map label_of (map (delivery_of u) (enumerate_from i told)) ≡ map (λ position. (u, position)) (range_with_len i (length told))
lane_labels u i [] = refl
lane_labels u i (d ∷ told) = ap (λ xs. (u, i) ∷ xs) (lane_labels u (i + 1) told)

abbrev AreLong : List (List Outcome) → List (List Block) → Type 0
AreLong [] [] = Unit {0}
AreLong [] (es ∷ ess) = ⊥
AreLong (ts ∷ tss) [] = ⊥
AreLong (ts ∷ tss) (es ∷ ess) = (length ts ≡ length es) × AreLong tss ess

are_long : (tss : List (List Outcome)) (ess : List (List Block)) → length tss ≡ length ess → ((u : ℕ) (ts : List Outcome) (es : List Block) → slice_get tss u ≡ Some ts → slice_get ess u ≡ Some es → length ts ≡ length es) → AreLong tss ess
are_long [] [] l h = tt
are_long [] (es ∷ ess) l h = absurd (omega (arith, l))
are_long (ts ∷ tss) [] l h = absurd (omega (arith, l))
are_long (ts ∷ tss) (es ∷ ess) l h = (h 0 ts es refl refl, are_long tss ess (omega (arith, l)) (λ u a b x y. h (suc u) a b x y))

labels_from : (u : ℕ) (tss : List (List Outcome)) (ess : List (List Block)) → AreLong tss ess
    → map label_of (flat_map (λ (e : ℕ × List Outcome). deliveries_of e.0 e.1) (enumerate_from u tss)) ≡ flat_map (λ (e : ℕ × List Block). map (λ position. (e.0, position)) (range_with_len 0 (length e.1))) (enumerate_from u ess)
labels_from u [] [] h = refl
labels_from u [] (es ∷ ess) h = absurd h
labels_from u (ts ∷ tss) [] h = absurd h
labels_from u (ts ∷ tss) (es ∷ ess) h =
    map-append label_of (deliveries_of u ts) (flat_map (λ (e : ℕ × List Outcome). deliveries_of e.0 e.1) (enumerate_from (u + 1) tss))
    ∙ ap (λ xs. xs ++ map label_of (flat_map (λ (e : ℕ × List Outcome). deliveries_of e.0 e.1) (enumerate_from (u + 1) tss))) (lane_labels u 0 ts ∙ ap (λ k. map (λ position. (u, position)) (range_with_len 0 k)) h.0)
    ∙ ap (λ xs. map (λ position. (u, position)) (range_with_len 0 (length es)) ++ xs) (labels_from (u + 1) tss ess h.1)

-- what holds of each block that is told of
each_told : (F : Delivery → Type 0) (u i : ℕ) (told : List Outcome) → ((position j : ℕ) (d : Outcome) → position ≡ i + j → slice_get told j ≡ Some d → F (delivery_of u (position, d))) → Each F (map (delivery_of u) (enumerate_from i told))
each_told F u i [] h = tt
each_told F u i (d ∷ told) h = (h i 0 d (omega arith) refl, each_told F u (i + 1) told (λ position j x e y. h position (suc j) x (omega (arith, e)) y))

each_list : (F : Delivery → Type 0) (u : ℕ) (tss : List (List Outcome)) → ((exporter j : ℕ) (told : List Outcome) → exporter ≡ u + j → slice_get tss j ≡ Some told → Each F (deliveries_of exporter told))
    → Each F (flat_map (λ (e : ℕ × List Outcome). deliveries_of e.0 e.1) (enumerate_from u tss))
each_list F u [] h = tt
each_list F u (ts ∷ tss) h = Each-append F (deliveries_of u ts) _ (h u 0 ts (omega arith) refl) (each_list F (u + 1) tss (λ exporter j told e x. h exporter (suc j) told (omega (arith, e)) x))

-- the exports of each worker
exports_length : (s : ℕ) (ps : List Part) → length (exports_from s ps) ≡ length ps
exports_length s [] = refl
exports_length s (p ∷ ps) = ap suc (exports_length (s + 1) ps)

exports_at : (s u : ℕ) (ps : List Part) (part : Part) → slice_get ps u ≡ Some part → slice_get (exports_from s ps) u ≡ Some (labelled_from (s + u) 0 part.history.exported)
exports_at s u [] part e = absurd (cc)
exports_at s zero (p ∷ ps) part e =
    let z : s ≡ s + 0 = omega arith in
    ap (λ (q : Part). Some (labelled_from s 0 q.history.exported)) (some_is e) ∙ ap (λ k. Some (labelled_from k 0 part.history.exported)) z
exports_at s (suc u) (p ∷ ps) part e =
    let z : s + 1 + u ≡ s + suc u = omega arith in
    exports_at (s + 1) u ps part e ∙ ap (λ k. Some (labelled_from k 0 part.history.exported)) z

exports_first : (u : ℕ) (ps : List Part) (part : Part) → slice_get ps u ≡ Some part → slice_get (exports_from 0 ps) u ≡ Some (labelled_from u 0 part.history.exported)
exports_first u ps part e = let z : 0 + u ≡ u = omega arith in exports_at 0 u ps part e ∙ ap (λ k. Some (labelled_from k 0 part.history.exported)) z

module _ {P A : Type 0} {known : P → ℕ → Option Place} {won : P → List (ℕ × Place)} (all : Gathered P A known won) where
  abbrev heap : HeapValue
  heap = all.heap

  abbrev c : CollectionValue
  c = all.collection

  abbrev n : ℕ
  n = all.workers

  abbrev rs : List (ThreadValue P A)
  rs = all.threads

  abbrev ps : List Part
  ps = parts all

  abbrev Seat : Type 0
  Seat = QueueSeatValue A CopiesKeyValue

  as_many : length ps ≡ length rs
  as_many = parts_length known won heap c n 0 rs all.each

  -- the part at a place is that of the thread there
  record HasThread (t : ℕ) (part : Part) : Type 0 where
    thread : ThreadValue P A
    there : slice_get rs t ≡ Some thread
    is : Is known won heap c n t thread
    same : part_of known won heap c n t thread is ≡ part

  thread_at : (t : ℕ) (part : Part) → slice_get ps t ≡ Some part → HasThread t part
  thread_at t part there =
      let l : t < length ps = slice_get_within ps t part there in
      let r = get-some rs t (let k = as_many in omega (arith, l, k)) in
      let p = part_first known won heap c n rs all.each t r.0 r.1 in
      record { thread = r.0; there = r.1; is = p.is; same = some_is (sym p.there ∙ there) }

  -- the worker whose exports these are
  exported_by : (u : ℕ) (es : List Block) → slice_get (exports_from 0 ps) u ≡ Some es → (part : Part) × ((slice_get ps u ≡ Some part) × (es ≡ labelled_from u 0 part.history.exported))
  exported_by u es e =
      let l : u < length (exports_from 0 ps) = slice_get_within (exports_from 0 ps) u es e in
      let r = get-some ps u (let k = exports_length 0 ps in omega (arith, l, k)) in
      (r.0, (r.1, some_is (sym e ∙ exports_first u ps r.0 r.1)))

  -- what the queues tell of a worker's exports
  module _ (u : ℕ) (r : ThreadValue P A) (at : slice_get rs u ≡ Some r) (k : Is known won heap c n u r) where
    abbrev list : List Outcome
    list = slice_index_or all.lists u []

    told_of : IsDelivered (seats_of rs) r.seat list
    told_of = subst (λ i. IsDelivered (seats_of rs) r.seat (slice_index_or all.lists i [])) k.index (each_get (λ (x : ThreadValue P A). IsDelivered (seats_of rs) x.seat (slice_index_or all.lists x.seat.index [])) rs u r (delivered_each all) at)

    sent_length : length r.seat.sent ≡ length k.worked.history.exported
    sent_length = sym (length-map (named heap.config.shape) r.seat.sent) ∙ ap length k.worked.exported ∙ labelled_length u 0 k.worked.history.exported

    list_length : length list ≡ length r.seat.sent
    list_length = sym (length-map (λ (d : Outcome). d.objects) list) ∙ ap length told_of.objects ∙ length-map (λ (b : BlockValue). length b.objects) r.seat.sent

    all_taken : told_of.count ≡ length k.worked.history.exported
    all_taken =
        let e : HasEnded r = each_get HasEnded rs u r all.ended at in
        let a = told_of.few in let b = told_of.cleared in let d = e.cleared in let f = sent_length in let g = list_length in omega (arith, a, b, d, f, g)

    once : (i : ℕ) → sum_by (λ (s : Seat). times_at u i s.taken) (seats_of rs) ≡ one_if (nat_lt i (length k.worked.history.exported))
    once i = ap (λ j. sum_by (λ (s : Seat). times_at j i s.taken) (seats_of rs)) (sym k.index) ∙ told_of.once i ∙ ap (λ m. one_if (nat_lt i m)) all_taken

  -- each export has a taker
  pub each_taken : All (λ (ds : List Outcome). All (λ (d : Outcome). IsSome d.taker) ds) all.lists
  each_taken =
      each_all (λ (ds : List Outcome). All (λ (d : Outcome). IsSome d.taker) ds) all.lists
      (each_place (λ (ds : List Outcome). All (λ (d : Outcome). IsSome d.taker) ds) all.lists (λ u ds there. each_all (λ (d : Outcome). IsSome d.taker) ds (each_place (λ (d : Outcome). IsSome d.taker) ds (λ position d at. taken_at u ds there position d at))))
    where
      taken_at : (u : ℕ) (ds : List Outcome) → slice_get all.lists u ≡ Some ds → (position : ℕ) (d : Outcome) → slice_get ds position ≡ Some d → IsSome d.taker
      taken_at u ds there position d at =
          let below : u < length rs = (let l = slice_get_within all.lists u ds there in let m = all.delivered.many in let k = length-map (λ (r : ThreadValue P A). r.seat) rs in omega (arith, l, m, k)) in
          let r = get-some rs u below in
          let k = (part_first known won heap c n rs all.each u r.0 r.1).is in
          let same : slice_index_or all.lists u [] ≡ ds = get_or_from_slice_get all.lists u ds [] there in
          let l : position < length (slice_index_or all.lists u []) = subst (λ (es : List Outcome). position < length es) (sym same) (slice_get_within ds position d at) in
          let e : is_some d.taker ≡ nat_lt position (told_of u r.0 r.1 k).count = (told_of u r.0 r.1 k).front position d (ap (λ es. slice_get es position) same ∙ at) in
          e ∙ lt-ltb position (told_of u r.0 r.1 k).count (let a = all_taken u r.0 r.1 k in let b = sent_length u r.0 r.1 k in let f = list_length u r.0 r.1 k in omega (arith, l, a, b, f))

  takings_are : (u i : ℕ) → takings u i (map (λ (p : Part). labels_on p.history.taken) ps) ≡ sum_by (λ (s : Seat). times_at u i s.taken) (seats_of rs)
  takings_are u i = total-map (λ (p : Part). labels_on p.history.taken) (label_times u i) ps ∙ by ps ∙ deliveries_total all u i
    where
      by : (qs : List Part) → total (λ (p : Part). label_times u i (labels_on p.history.taken)) qs ≡ total (λ (p : Part). deliveries u i p.history.taken) qs
      by [] = refl
      by (q ∷ qs) = ap (λ m. label_times u i (labels_on q.history.taken) + m) (by qs) ∙ ap (λ m. m + total (λ (p : Part). deliveries u i p.history.taken) qs) (taken_here u i q.history.taken)

  -- each worker's exports were taken once, in their order
  taken_in_order : AreTakenInOrder (state_of heap ps)
  taken_in_order =
      record {
        lists = record {
          exported = exports_length 0 ps ∙ sym (length-map (λ (p : Part). p.final) ps);
          queues = length-map (λ (p : Part). []) ps ∙ sym (length-map (λ (p : Part). p.final) ps);
          taken = length-map (λ (p : Part). labels_on p.history.taken) ps ∙ sym (length-map (λ (p : Part). p.final) ps);
        };
        exports = λ u es e. (
            let x = exported_by u es e in
            let h = thread_at u x.0 x.1.0 in
            let many : length h.is.worked.history.exported ≡ length es = ap (λ (p : Part). length p.history.exported) h.same ∙ sym (ap length x.1.1 ∙ labelled_length u 0 x.0.history.exported) in
            record {
              front = length es;
              within = omega arith;
              labelled = λ i block there. ap (λ (b : Block). b.sent) (left_here u x.0.history.exported i block (ap (λ bs. slice_get bs i) (sym x.1.1) ∙ there)).same;
              queue = get-map (λ (p : Part). []) ps u x.0 x.1.0 ∙ ap (λ q. Some q) (sym (rests_none es));
              taken = λ i. takings_are u i ∙ once u h.thread h.there h.is i ∙ ap (λ m. one_if (nat_lt i m)) many;
            });
        rising = λ t es e u. (
            let l : t < length ps = (let w = slice_get_within (map (λ (p : Part). labels_on p.history.taken) ps) t es e in let m = length-map (λ (p : Part). labels_on p.history.taken) ps in omega (arith, w, m)) in
            let p = get-some ps t l in
            let h = thread_at t p.0 p.1 in
            let is : es ≡ labels_on (map (named heap.config.shape) h.thread.seat.taken) = some_is (sym e ∙ get-map (λ (q : Part). labels_on q.history.taken) ps t p.0 p.1) ∙ ap (λ (q : Part). labels_on q.history.taken) (sym h.same) ∙ ap labels_on (sym h.is.worked.taken) in
            subst IsRising (sym (ap (positions_of u) is ∙ positions_are heap.config.shape u h.thread.seat.taken)) (h.is.queued.rises u));
        exporters = each_place (λ es. Each (λ (e : ℕ × ℕ). e.0 < length (finals_of ps)) es) (map (λ (p : Part). labels_on p.history.taken) ps) (λ t es e. (
            let l : t < length ps = (let w = slice_get_within (map (λ (p : Part). labels_on p.history.taken) ps) t es e in let m = length-map (λ (p : Part). labels_on p.history.taken) ps in omega (arith, w, m)) in
            let p = get-some ps t l in
            let h = thread_at t p.0 p.1 in
            let is : es ≡ labels_on (map (named heap.config.shape) h.thread.seat.taken) = some_is (sym e ∙ get-map (λ (q : Part). labels_on q.history.taken) ps t p.0 p.1) ∙ ap (λ (q : Part). labels_on q.history.taken) (sym h.same) ∙ ap labels_on (sym h.is.worked.taken) in
            let many : length (seats_of rs) ≡ length (finals_of ps) = length-map (λ (r : ThreadValue P A). r.seat) rs ∙ sym as_many ∙ sym (length-map (λ (q : Part). q.final) ps) in
            subst (Each (λ (x : ℕ × ℕ). x.0 < length (finals_of ps))) (sym is)
            (subst (λ m. Each (λ (x : ℕ × ℕ). x.0 < m) (labels_on (map (named heap.config.shape) h.thread.seat.taken))) many
            (each_label (λ (x : ℕ × ℕ). x.0 < length (seats_of rs)) heap.config.shape h.thread.seat.taken
            (all_each (IsLabelledBelow (length (seats_of rs))) h.thread.seat.taken (each_get (λ (r : ThreadValue P A). All (IsLabelledBelow (length (seats_of rs))) r.seat.taken) rs t h.thread (labels_each all) h.there))))));
      }

  -- what is told of an export
  told : (u position : ℕ) (ds : List Outcome) (d : Outcome) → slice_get all.lists u ≡ Some ds → slice_get ds position ≡ Some d → IsDelivery (state_of heap ps) (delivery_of u (position, d))
  told u position ds d there at =
      let below : u < length rs = (let l = slice_get_within all.lists u ds there in let m = all.delivered.many in let k = length-map (λ (r : ThreadValue P A). r.seat) rs in omega (arith, l, m, k)) in
      let r = get-some rs u below in
      let p = part_first known won heap c n rs all.each u r.0 r.1 in
      let k : Is known won heap c n u r.0 = p.is in
      let x : IsDelivered (seats_of rs) r.0.seat ds = subst (IsDelivered (seats_of rs) r.0.seat) (get_or_from_slice_get all.lists u ds [] there) (told_of u r.0 r.1 k) in
      let short : position < length r.0.seat.sent = (let l = slice_get_within ds position d at in let m : length ds ≡ length r.0.seat.sent = sym (length-map (λ (y : Outcome). y.objects) ds) ∙ ap length x.objects ∙ length-map (λ (b : BlockValue). length b.objects) r.0.seat.sent in omega (arith, l, m)) in
      let b = get-some r.0.seat.sent position short in
      let objects : d.objects ≡ length b.0.objects = some_is (sym (get-map (λ (y : Outcome). y.objects) ds position d at) ∙ ap (λ ms. slice_get ms position) x.objects ∙ get-map (λ (y : BlockValue). length y.objects) r.0.seat.sent position b.0 b.1) in
      let noted : length b.0.origins ≡ length b.0.objects = each_get (λ (y : BlockValue). length y.origins ≡ length y.objects) r.0.seat.sent position b.0 k.queued.noted b.1 in
      let is_one : sum_by (λ (s : Seat). times_at u position s.taken) (seats_of rs) ≡ 1 = once u r.0 r.1 k position ∙ ap one_if (lt-ltb position (length k.worked.history.exported) (let m = sent_length u r.0 r.1 k in omega (arith, short, m))) in
      let some_took : 0 < total (λ (q : ThreadValue P A). times_at u position q.seat.taken) rs = (let e : sum_by (λ (s : Seat). times_at u position s.taken) (seats_of rs) ≡ total (λ (q : ThreadValue P A). times_at u position q.seat.taken) rs = sum-total (λ (s : Seat). times_at u position s.taken) (seats_of rs) ∙ total-map (λ (q : ThreadValue P A). q.seat) (λ (s : Seat). times_at u position s.taken) rs in omega (arith, is_one, e)) in
      let v = picked (λ (q : ThreadValue P A). times_at u position q.seat.taken) rs some_took in
      let q = part_first known won heap c n rs all.each v.0 v.1.0 v.1.1.0 in
      let names : times_at u position v.1.0.seat.taken ≡ names_taker ds position v.0 =
      ap (λ i. times_at i position v.1.0.seat.taken) (sym k.index)
      ∙ each_get (λ (s : Seat). (i : ℕ) → times_at r.0.seat.index i s.taken ≡ names_taker ds i s.index) (seats_of rs) v.0 v.1.0.seat
      (all_each (λ (s : Seat). (i : ℕ) → times_at r.0.seat.index i s.taken ≡ names_taker ds i s.index) (seats_of rs) x.takers) (get-map (λ (y : ThreadValue P A). y.seat) rs v.0 v.1.0 v.1.1.0) position
      ∙ ap (names_taker ds position) q.is.index in
      let named_one : names_taker ds position v.0 ≡ is_taker v.0 d.taker = ap (λ o. is_taker v.0 (option_and_then (λ (y : Outcome). y.taker) o)) at in
      let taker : d.taker ≡ Some v.0 = taker_is v.0 d.taker (let l = v.1.1.1 in omega (arith, l, names, named_one)) in
      let found = label_found u position (labels_on q.is.worked.history.taken) (let l = v.1.1.1 in let e : label_times u position (labels_on q.is.worked.history.taken) ≡ times_at u position v.1.0.seat.taken = taken_here u position q.is.worked.history.taken ∙ ap (deliveries u position) (sym q.is.worked.taken) ∙ delivered-is heap.config.shape u position v.1.0.seat.taken in omega (arith, l, e)) in
      record {
        exports = labelled_from u 0 k.worked.history.exported;
        exporter = exports_first u ps (part_of known won heap c n u r.0 k) p.there;
        block = named heap.config.shape b.0;
        there = ap (λ bs. slice_get bs position) (sym k.worked.exported) ∙ get-map (named heap.config.shape) r.0.seat.sent position b.0 b.1;
        objects = ap (λ m. min m 4294967295) (objects ∙ sym (named_length b.0.number 0 b.0.origins b.0.objects noted));
        taken = labels_on q.is.worked.history.taken;
        taker = ap (λ o. slice_get (map (λ (y : Part). labels_on y.history.taken) ps) (unwrap_or o 0)) taker ∙ get-map (λ (y : Part). labels_on y.history.taken) ps v.0 (part_of known won heap c n v.0 v.1.0 q.is) q.there;
        place = found.0;
        took = found.1;
      }

  delivered : AreDelivered (state_of heap ps) (all_deliveries all.lists)
  delivered =
      record {
        labels = labels_from 0 all.lists (exports_from 0 ps) (are_long all.lists (exports_from 0 ps) many same_length);
        each = each_list (IsDelivery (state_of heap ps)) 0 all.lists (λ exporter j ds e at.
            (let x : slice_get all.lists exporter ≡ Some ds = ap (slice_get all.lists) (let q : exporter ≡ j = omega (arith, e) in q) ∙ at in
            each_told (IsDelivery (state_of heap ps)) exporter 0 ds (λ position i d f there.
            (told exporter position ds d x (ap (slice_get ds) (let q : position ≡ i = omega (arith, f) in q) ∙ there)))));
      }
    where
      many : length all.lists ≡ length (exports_from 0 ps)
      many = all.delivered.many ∙ length-map (λ (r : ThreadValue P A). r.seat) rs ∙ sym as_many ∙ sym (exports_length 0 ps)

      same_length : (u : ℕ) (ds : List Outcome) (es : List Block) → slice_get all.lists u ≡ Some ds → slice_get (exports_from 0 ps) u ≡ Some es → length ds ≡ length es
      same_length u ds es a b =
          let x = exported_by u es b in
          let h = thread_at u x.0 x.1.0 in
          let list_is : slice_index_or all.lists u [] ≡ ds = get_or_from_slice_get all.lists u ds [] a in
          sym (ap length list_is) ∙ list_length u h.thread h.there h.is ∙ sent_length u h.thread h.there h.is ∙ ap (λ (p : Part). length p.history.exported) h.same
          ∙ sym (ap length x.1.1 ∙ labelled_length u 0 x.0.history.exported)

  -- nothing is left
  nothing_left : NothingLeft (state_of heap ps)
  nothing_left =
      record {
        workers = λ t w e. (
            let l : t < length ps = (let x = slice_get_within (finals_of ps) t w e in let m = length-map (λ (p : Part). p.final) ps in omega (arith, x, m)) in
            let p = get-some ps t l in
            let is : p.0.final ≡ w = some_is (sym (get-map (λ (q : Part). q.final) ps t p.0 p.1) ∙ e) in
            subst (λ x. IsOutOfWork x × Each (λ (b : Block). has_unscanned b ≡ false) (blocks_of x)) is (
              (each_get (HasRun (setting_for heap c n)) ps t p.0 (joined all).runs p.1).out,
              scanned (blocks_of p.0.final) (each_get (λ (q : Part). Each (IsLeft (setting_for heap c n) (placed_in all) ps) (blocks_of q.final)) ps t p.0 (kept heap.graph c.generation heap.config.shape heap.config.block_words n (placed_in all) ps (brought all)).blocks p.1),
            ));
        queues = λ u queue e. (
            let l : u < length ps = (let x = slice_get_within (map (λ (p : Part). []) ps) u queue e in let m = length-map {Y = List Block} (λ (p : Part). []) ps in omega (arith, x, m)) in
            let p = get-some ps u l in
            some_is (sym e ∙ get-map (λ (q : Part). []) ps u p.0 p.1));
      }
    where
      scanned : (bs : List Block) → Each (IsLeft (setting_for heap c n) (placed_in all) ps) bs → Each (λ (b : Block). has_unscanned b ≡ false) bs
      scanned [] h = tt
      scanned (b ∷ bs) h = (h.0.scanned, scanned bs h.1)

  all_ended : AllEnded (state_of heap ps)
  all_ended t l =
      let p = get-some ps t (let m = length-map (λ (q : Part). q.final) ps in omega (arith, l, m)) in
      get-map (λ (q : Part). true) ps t p.0 p.1

  -- no large object stands in a free block
  no_large : (number : ℕ) → 0 < times number heap.free → (m : ℕ) → is_large_name (setting_for heap c n) m ≡ true → in_block number m ≡ false
  no_large number is_free m l = by (in_block number m) refl
    where
      by : (x : Bool) → in_block number m ≡ x → in_block number m ≡ false
      by false e = e
      by true e =
          let q : m / 65536 ≡ number + 1 = eqb-true _ _ e in
          let i : m ≡ small_word number (m - (number + 1) * 65536) = omega (arith, q) in
          absurd (true≢false (sym l ∙ ap (λ o. option_map_or (is_large heap.config.block_words) o false)
          (ap (setting_for heap c n).object i ∙ heap_empty heap all.ready.sound number (m - (number + 1) * 65536) (stands_has number heap.free is_free) (omega (arith, q)))))

  scans : ScansInBlocks (finals_of ps) heap.free
  scans number is_free =
      parts_scan_in_block (setting_for heap c n) (placed_in all) ps (joined all) (brought all).small_blocks (brought all).fresh (turns all)
      (let m = as_many in let k = all.count in let s = all.some in omega (arith, m, k, s)) number (no_large number is_free)

  pub reports_apart : (reports : List WorkerLists) (blocks : List BlockValue) (places : List (Option Place)) → Reported all reports blocks places → ReportsApart heap c.generation n reports (all_deliveries all.lists)
  reports_apart reports blocks places r =
      record {
        parts = ps;
        many = as_many ∙ all.count;
        starts = λ t part there. (let h = thread_at t part there in
            sym (ap (λ (p : Part). p.start) h.same) ∙ ap (λ ss. opening_worker (dest_count heap.config.shape c.generation) n (map target_of_slot ss) t) all.ready.opened.slots);
        runs = turns all;
        reports_are = record {
          ended = all_ended;
          left = nothing_left;
          lists = record {
            won = r.won_are ∙ ap (map (λ (w : Worker). w.won)) (sym (finals_are known won heap c n 0 rs all.each));
            scanned = r.scanned_are ∙ ap (map (λ (w : Worker). w.scanned)) (sym (finals_are known won heap c n 0 rs all.each));
          };
          delivered = delivered;
        };
        in_order = scans;
        taken = taken_in_order;
        unscanned = λ t part there. each_unscanned (setting_for heap c n) part (each_get (HasRun (setting_for heap c n)) ps t part (joined all).runs there);
        lasts_in_order = λ t part there. stand_in_order (setting_for heap c n) part (each_get (HasRun (setting_for heap c n)) ps t part (joined all).runs there);
      }
