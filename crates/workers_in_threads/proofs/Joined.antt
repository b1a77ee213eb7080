-- What threads brought is what a collection keeps.
use Rattle.std.proofs.Common.{◌≡◌, ◌≢◌, ℕ, zero, suc, ◌+◌, ◌<◌, ◌≤◌, List, [], ◌∷◌, ◌++◌, All, map, length, Option, Some, None, refl, sym, ap, subst, ◌∙◌, arith, nat_eq, Contains, inl, ⊎_elim, ne_eqb}
use Rattle.std.proofs.lemmas.Bool.{lt-ltb, cases_eq}
use Rattle.std.proofs.lemmas.List.{map-append}
use Rattle.std.specs.Prelude.{slice_get, slice_index_or, IsTrue, IsSomeAnd}
use Rattle.std.specs.List.{sum_by}
use Rattle.model.specs.Live.{Live}
use Rattle.model.specs.Reached.{has}
use Rattle.layout.specs.declared.place.Place.{Place}
use Rattle.block_pool.specs.BlockValue.{BlockValue}
use Rattle.block_pool.specs.ClaimsValue.{all_drawn}
use Rattle.block_pool.specs.Drawn.{times_in}
use Rattle.block_pool.proofs.ClaimLemmas.{times-distinct}
use Rattle.forwarding.specs.Settled.{IsSettled, all_pairs, KnowsOnly, Pairs}
use Rattle.forwarding.specs.Settled as settled
use Rattle.pending_queues.specs.Labelled.{times_at}
use Rattle.steps.specs.HeapValue.{HeapValue}
use Rattle.steps.specs.CollectionValue.{CollectionValue, young_names, target_of_slot}
use Rattle.heap.proofs.SoundHeap.{heap_empty}
use Rattle.pending_queues.specs.PassValue.{position_of, position_on}
use Rattle.pending_queues.specs.PendingValue.{SeatValue as QueueSeatValue}
use Rattle.pending_queues.specs.Delivered.{IsDelivered, IsLabelledBelow}
use Rattle.pending_queues.proofs.Unique.{sum-total}
use Rattle.scavenge.specs.Handed.{CopiesKeyValue}
use Rattle.model.specs.Destination.{dest_count}
use Rattle.workers.specs.Block.{Block, Copy}
use Rattle.workers.specs.Worker.{Worker}
use Rattle.workers.specs.System.{opening_workers}
use Rattle.workers.specs.Total.{total, one_if, times, wins_of, ones}
use Rattle.workers.specs.Joined.{Each, Part, HasRun, Joined, WasExported, deliveries}
use Rattle.model.specs.Collected.{IsLiveOrOlder}
use Rattle.workers.specs.Kept.{Brought, CopiesLive}
use Rattle.workers.specs.Ordered.{TurnRun}
use Rattle.workers.specs.Places.{IsPair}
use Rattle.workers.specs.Ready.{IsHanded}
use Rattle.workers.proofs.Starts.{opens, starts_dealt}
use Rattle.workers.proofs.Kept.{kept}
use Rattle.workers.proofs.Order.{ordered as all_ordered}
use Rattle.workers.proofs.HandedOn.{handed_on}
use Rattle.workers.proofs.GoOn.{go_on}
use Rattle.workers.proofs.ScanOwn.{scan_own}
use Rattle.scavenge.specs.Named.{named}
use Rattle.scavenge.proofs.Starts.{has_starts}
use Rattle.workers_in_threads.specs.SharingValue.{setting_for, begins, forwarded_in, forwarded_at, stands_at, labelled_from}
use Rattle.workers_in_threads.specs.IsSharing.{KnowsPair}
use Rattle.workers_in_threads.proofs.Readiness.{start_roomy, start_live}
use Rattle.workers_in_threads.proofs.Knowing.{left_here, labelled_length}
use Rattle.workers_in_threads.specs.Threads.{ThreadValue, HasEnded, Gathered, placed_in, KeptBy, passes_of, draws_of, seats_of}
use Rattle.workers_in_threads.proofs.Lists.{all_each, each_get, get-map, get-some, length-map, each_of_map, total-map, total-append, times-is, delivered-is, has-contains}
use Rattle.workers_in_threads.proofs.Named.{InRange, found_once, IsGiven, found_named, won_once}
use Rattle.workers_in_threads.proofs.Parts.{Are, part_of, parts_of, finals_are, parts_length, each_part, each_thread, total_parts, part_first}

ones-le : {X : Type 0} (o : Option X) → settled.ones o ≤ 1
ones-le None = omega arith
ones-le (Some x) = omega arith

module _ (heap : HeapValue) (c : CollectionValue) (n : ℕ) where
  copies_live : (cs : List Copy) → Each (λ (x : Copy). Live heap.graph c.generation x.name) cs → Each (λ (x : Copy). IsLiveOrOlder heap.graph c.generation x.name) cs
  copies_live [] h = tt
  copies_live (x ∷ xs) h = (inl h.0, copies_live xs h.1)

  pub handed_live : (bs : List Block) → Each (IsHanded heap.graph c.generation heap.config.shape heap.config.block_words n) bs → Each (CopiesLive heap.graph c.generation) bs
  handed_live [] h = tt
  handed_live (b ∷ bs) h = (copies_live b.copies h.0.live, handed_live bs h.1)

module _ {P A : Type 0} {known : P → ℕ → Option Place} {won : P → List (ℕ × Place)} (all : Gathered P A known won) where
  abbrev heap : HeapValue
  heap = all.heap

  abbrev c : CollectionValue
  c = all.collection

  abbrev n : ℕ
  n = all.workers

  abbrev rs : List (ThreadValue P A)
  rs = all.threads

  abbrev pub parts : List Part
  parts = parts_of known won heap c n 0 rs all.each

  abbrev pub given : ℕ → Option Place
  given number = slice_index_or all.places number None

  abbrev pub pairs : List (ℕ × Place)
  pairs = all_pairs won (passes_of rs)

  pub cells_are : c.cells ≡ length (young_names heap.graph c.generation)
  cells_are = all.ready.opened.cells

  -- all that was won is in range
  pub in_range : Each (InRange heap c cells_are) pairs
  in_range = by 0 rs all.each
    where
      more : (xs ys : List (ℕ × Place)) → Each (InRange heap c cells_are) xs → Each (InRange heap c cells_are) ys → Each (InRange heap c cells_are) (xs ++ ys)
      more [] ys h k = k
      more (x ∷ xs) ys h k = (h.0, more xs ys h.1 k)

      by : (t : ℕ) (rs : List (ThreadValue P A)) → Are known won heap c n t rs → Each (InRange heap c cells_are) (all_pairs won (passes_of rs))
      by t [] h = tt
      by t (r ∷ rs) h = more (won r.pass) (all_pairs won (passes_of rs)) (all_each (InRange heap c cells_are) (won r.pass) h.0.worked.numbers) (by (t + 1) rs h.1)

  pub given_each : Each (IsGiven heap c cells_are given) pairs
  given_each = all_each (IsGiven heap c cells_are given) pairs all.settled.won_settled

  pub wins_least : (number : ℕ) → settled.wins_of number pairs ≤ 1
  wins_least number = let o = ones-le (given number) in let e = all.settled.once number in omega (arith, o, e)

  -- all that the workers won, one after another
  won_total : (name : ℕ) → total (λ (p : Part). wins_of name p.final.won) parts ≡ wins_of name (forwarded_in heap c pairs)
  won_total name =
      total_parts known won heap c n (λ (p : Part). wins_of name p.final.won) (λ (r : ThreadValue P A). wins_of name (forwarded_in heap c (won r.pass))) (λ t r k. ap (wins_of name) (sym k.worked.won_are)) 0 rs all.each
      ∙ by rs
    where
      by : (rs : List (ThreadValue P A)) → total (λ (r : ThreadValue P A). wins_of name (forwarded_in heap c (won r.pass))) rs ≡ wins_of name (forwarded_in heap c (all_pairs won (passes_of rs)))
      by [] = refl
      by (r ∷ rs) =
          ap (λ k. wins_of name (forwarded_in heap c (won r.pass)) + k) (by rs)
          ∙ sym (ap (wins_of name) (map-append (forwarded_at heap c) (won r.pass) (all_pairs won (passes_of rs)))
          ∙ total-append (λ (p : ℕ × ℕ). one_if (nat_eq p.0 name)) (forwarded_in heap c (won r.pass)) (forwarded_in heap c (all_pairs won (passes_of rs))))

  won_once_all : (name : ℕ) → total (λ (p : Part). wins_of name p.final.won) parts ≡ ones (placed_in all name)
  won_once_all name = won_total name ∙ found_once name (forwarded_in heap c pairs) (won_once heap c cells_are name pairs in_range wins_least)

  -- what a worker knows of a name is where it was placed
  known_placed : (t : ℕ) (r : ThreadValue P A) → KnowsOnly (known r.pass) given → (e : ℕ × ℕ) → KnowsPair heap c (known r.pass) e → IsPair (placed_in all) e
  known_placed t r only e k =
      let here : given k.number ≡ Some k.place = only k.number k.place k.shown in
      let w : settled.wins_of k.number pairs ≡ 1 = all.settled.once k.number ∙ ap settled.ones here in
      subst (λ name. placed_in all name ≡ Some e.1) k.of.is
      (found_named heap c cells_are given k.number k.place k.of.in_range here pairs in_range given_each (omega (arith, w))
      ∙ ap (λ name. Some (stands_at heap c name k.place)) k.of.is ∙ ap (λ z. Some z) (sym k.stands))

  knows_all : Each (λ (p : Part). Each (IsPair (placed_in all)) p.history.known) parts
  knows_all =
      each_part known won heap c n (λ (p : Part). Each (IsPair (placed_in all)) p.history.known) (λ (r : ThreadValue P A). KnowsOnly (known r.pass) given)
      (λ t r k only. each_on r only k.worked.history.known (λ e h. known_placed t r only e h) k.worked.knows) 0 rs all.each
      (each_of_map (λ (r : ThreadValue P A). r.pass) (λ p. KnowsOnly (known p) given) rs (all_each (λ p. KnowsOnly (known p) given) (passes_of rs) all.settled.known_settled))
    where
      each_on : (r : ThreadValue P A) → KnowsOnly (known r.pass) given → (es : List (ℕ × ℕ)) → ((e : ℕ × ℕ) → KnowsPair heap c (known r.pass) e → IsPair (placed_in all) e) → Each (KnowsPair heap c (known r.pass)) es → Each (IsPair (placed_in all)) es
      each_on r only [] f h = tt
      each_on r only (e ∷ es) f h = (f e h.0, each_on r only es f h.1)

  -- each block was drawn once, of the free ones
  drawn_total : (number : ℕ) → total (λ (p : Part). times number p.history.drawn) parts ≡ times_in number (all_drawn (draws_of rs))
  drawn_total number =
      total_parts known won heap c n (λ (p : Part). times number p.history.drawn) (λ (r : ThreadValue P A). times number r.draws.drawn) (λ t r k. ap (times number) (sym k.worked.drawn)) 0 rs all.each
      ∙ by rs
    where
      by : (rs : List (ThreadValue P A)) → total (λ (r : ThreadValue P A). times number r.draws.drawn) rs ≡ times_in number (all_drawn (draws_of rs))
      by [] = refl
      by (r ∷ rs) =
          ap (λ k. times number r.draws.drawn + k) (by rs ∙ sym (times-is number (all_drawn (draws_of rs))))
          ∙ sym (total-append (λ x. one_if (nat_eq x number)) r.draws.drawn (all_drawn (draws_of rs)))
          ∙ times-is number (r.draws.drawn ++ all_drawn (draws_of rs))

  drawn_least : (number : ℕ) → total (λ (p : Part). times number p.history.drawn) parts ≤ 1
  drawn_least number = let e = drawn_total number in let l = times-distinct (all_drawn (draws_of rs)) all.drawn_once number in omega (arith, e, l)

  -- the seats
  abbrev Seat : Type 0
  Seat = QueueSeatValue A CopiesKeyValue

  pub delivered_each : Each (λ (r : ThreadValue P A). IsDelivered (seats_of rs) r.seat (slice_index_or all.lists r.seat.index [])) rs
  delivered_each =
      each_of_map (λ (r : ThreadValue P A). r.seat) (λ (s : Seat). IsDelivered (seats_of rs) s (slice_index_or all.lists s.index [])) rs
      (all_each (λ (s : Seat). IsDelivered (seats_of rs) s (slice_index_or all.lists s.index [])) (seats_of rs) all.delivered.each)

  pub labels_each : Each (λ (r : ThreadValue P A). All (IsLabelledBelow (length (seats_of rs))) r.seat.taken) rs
  labels_each =
      each_of_map (λ (r : ThreadValue P A). r.seat) (λ (s : Seat). All (IsLabelledBelow (length (seats_of rs))) s.taken) rs
      (all_each (λ (s : Seat). All (IsLabelledBelow (length (seats_of rs))) s.taken) (seats_of rs) all.delivered.labels)

  -- a block that some worker took was sent by the one whose label it has
  module _ (v : ℕ) (taker : ThreadValue P A) (at : slice_get rs v ≡ Some taker) where
    took_sent : (u : ℕ) (exporter : ThreadValue P A) → slice_get rs u ≡ Some exporter → All (λ (b : BlockValue). b.sent ≡ Some (exporter.seat.index, position_of b) → slice_get exporter.seat.sent (position_of b) ≡ Some b) taker.seat.taken
    took_sent u exporter there =
        let d = each_get (λ (r : ThreadValue P A). IsDelivered (seats_of rs) r.seat (slice_index_or all.lists r.seat.index [])) rs u exporter delivered_each there in
        each_get (λ (s : Seat). All (λ (b : BlockValue). b.sent ≡ Some (exporter.seat.index, position_of b) → slice_get exporter.seat.sent (position_of b) ≡ Some b) s.taken) (seats_of rs) v taker.seat
        (all_each (λ (s : Seat). All (λ (b : BlockValue). b.sent ≡ Some (exporter.seat.index, position_of b) → slice_get exporter.seat.sent (position_of b) ≡ Some b) s.taken) (seats_of rs) d.as_sent)
        (get-map (λ (r : ThreadValue P A). r.seat) rs v taker at)

    abbrev Below : Option (ℕ × ℕ) → Type 0
    Below o = IsSomeAnd o (λ label. label.0 < length (seats_of rs))

    was_exported : (b : BlockValue) (k : ℕ) → slice_get taker.seat.taken k ≡ Some b → WasExported parts (named heap.config.shape b)
    was_exported b k there = by b.sent refl (each_get (IsLabelledBelow (length (seats_of rs))) taker.seat.taken k b (all_each (IsLabelledBelow (length (seats_of rs))) taker.seat.taken labels) there)
      where
        labels : All (IsLabelledBelow (length (seats_of rs))) taker.seat.taken
        labels = each_get (λ (r : ThreadValue P A). All (IsLabelledBelow (length (seats_of rs))) r.seat.taken) rs v taker labels_each at

        from : (label : ℕ × ℕ) → b.sent ≡ Some label → label.0 < length (seats_of rs) → WasExported parts (named heap.config.shape b)
        from label is below =
            let u = get-some rs label.0 (let l = length-map (λ (r : ThreadValue P A). r.seat) rs in omega (arith, below, l)) in
            let p = part_first known won heap c n rs all.each label.0 u.0 u.1 in
            let index : u.0.seat.index ≡ label.0 = p.is.index in
            let position : position_of b ≡ label.1 = ap (λ o. position_on o) is in
            let sent : slice_get u.0.seat.sent (position_of b) ≡ Some b =
            each_get (λ (x : BlockValue). x.sent ≡ Some (u.0.seat.index, position_of x) → slice_get u.0.seat.sent (position_of x) ≡ Some x) taker.seat.taken k b
            (all_each (λ (x : BlockValue). x.sent ≡ Some (u.0.seat.index, position_of x) → slice_get u.0.seat.sent (position_of x) ≡ Some x) taker.seat.taken (took_sent label.0 u.0 u.1)) there
            (is ∙ ap (λ i. Some (i, label.1)) (sym index) ∙ ap (λ j. Some (u.0.seat.index, j)) (sym position)) in
            let named_there : slice_get (labelled_from label.0 0 p.is.worked.history.exported) label.1 ≡ Some (named heap.config.shape b) =
            ap (λ xs. slice_get xs label.1) (sym p.is.worked.exported) ∙ ap (slice_get (map (named heap.config.shape) u.0.seat.sent)) (sym position) ∙ get-map (named heap.config.shape) u.0.seat.sent (position_of b) b sent in
            let l = left_here label.0 p.is.worked.history.exported label.1 (named heap.config.shape b) named_there in
            record { u = label.0; i = label.1; part = part_of known won heap c n label.0 u.0 p.is; exporter = p.there; sent = l.sent; there = l.there; same = l.same }

        by : (o : Option (ℕ × ℕ)) → b.sent ≡ o → Below b.sent → WasExported parts (named heap.config.shape b)
        by None is below = absurd (subst Below is below)
        by (Some label) is below = from label is (subst Below is below)

  taken_each : Each (λ (p : Part). Each (WasExported parts) p.history.taken) parts
  taken_each = by rs 0 all.each rs refl (λ i r e. (let z : i ≡ 0 + i = omega arith in subst (λ k. slice_get rs k ≡ Some r) z e))
    where
      blocks : (v : ℕ) (taker : ThreadValue P A) → slice_get rs v ≡ Some taker → (bs : List BlockValue) → ((k : ℕ) (b : BlockValue) → slice_get bs k ≡ Some b → (j : ℕ) × (slice_get taker.seat.taken j ≡ Some b)) → Each (WasExported parts) (map (named heap.config.shape) bs)
      blocks v taker at [] f = tt
      blocks v taker at (b ∷ bs) f = (let j = f 0 b refl in was_exported v taker at b j.0 j.1, blocks v taker at bs (λ k x e. f (suc k) x e))

      by : (xs : List (ThreadValue P A)) (t : ℕ) (h : Are known won heap c n t xs) (ys : List (ThreadValue P A)) → ys ≡ xs → ((i : ℕ) (r : ThreadValue P A) → slice_get xs i ≡ Some r → slice_get rs (t + i) ≡ Some r) → Each (λ (p : Part). Each (WasExported parts) p.history.taken) (parts_of known won heap c n t xs h)
      by [] t h ys is f = tt
      by (r ∷ xs) t h ys is f = (
        subst (Each (WasExported parts)) h.0.worked.taken (blocks t r (subst (λ k. slice_get rs k ≡ Some r) (let z : t + 0 ≡ t = omega arith in z) (f 0 r refl)) r.seat.taken (λ k b e. (k, e))),
        by xs (t + 1) h.1 xs refl (λ i x e. subst (λ k. slice_get rs k ≡ Some x) (let z : t + suc i ≡ t + 1 + i = omega arith in z) (f (suc i) x e)),
      )

  -- each export was taken once
  pub deliveries_total : (u i : ℕ) → total (λ (p : Part). deliveries u i p.history.taken) parts ≡ sum_by (λ (s : Seat). times_at u i s.taken) (seats_of rs)
  deliveries_total u i =
      total_parts known won heap c n (λ (p : Part). deliveries u i p.history.taken) (λ (r : ThreadValue P A). times_at u i r.seat.taken) (λ t r k. ap (deliveries u i) (sym k.worked.taken) ∙ delivered-is heap.config.shape u i r.seat.taken) 0 rs all.each
      ∙ sym (total-map (λ (r : ThreadValue P A). r.seat) (λ (s : Seat). times_at u i s.taken) rs)
      ∙ sym (sum-total (λ (s : Seat). times_at u i s.taken) (seats_of rs))

  taken_once : (u i : ℕ) (part : Part) → slice_get parts u ≡ Some part → i < length part.history.exported → total (λ (p : Part). deliveries u i p.history.taken) parts ≡ 1
  taken_once u i part there lt =
      let l : u < length parts = within parts u part there in
      let r = get-some rs u (let k = parts_length known won heap c n 0 rs all.each in omega (arith, l, k)) in
      let p = part_first known won heap c n rs all.each u r.0 r.1 in
      let same : part_of known won heap c n u r.0 p.is ≡ part = some_is (sym p.there ∙ there) in
      let d = each_get (λ (x : ThreadValue P A). IsDelivered (seats_of rs) x.seat (slice_index_or all.lists x.seat.index [])) rs u r.0 delivered_each r.1 in
      let e : HasEnded r.0 = each_get HasEnded rs u r.0 all.ended r.1 in
      let sent : length r.0.seat.sent ≡ length part.history.exported =
      sym (length-map (named heap.config.shape) r.0.seat.sent) ∙ ap length p.is.worked.exported ∙ labelled_length u 0 p.is.worked.history.exported ∙ ap (λ (q : Part). length q.history.exported) same in
      let index : r.0.seat.index ≡ u = p.is.index in
      let once = d.once i in
      deliveries_total u i ∙ ap (λ j. sum_by (λ (s : Seat). times_at j i s.taken) (seats_of rs)) (sym index) ∙ once
      ∙ ap one_if (lt-ltb i d.count (let c = d.cleared in let f = e.cleared in omega (arith, lt, sent, c, f)))
    where
      some_is : {X : Type 0} {x y : X} → Some x ≡ Some y → x ≡ y
      some_is e = cc

      within : {X : Type 0} (xs : List X) (i : ℕ) (x : X) → slice_get xs i ≡ Some x → i < length xs
      within [] i x e = absurd (cc)
      within (y ∷ ys) zero x e = omega arith
      within (y ∷ ys) (suc i) x e = let l = within ys i x e in omega (arith, l)

  pub joined : Joined (setting_for heap c n) (placed_in all) parts
  joined =
      record {
        runs = each_part known won heap c n (HasRun (setting_for heap c n)) HasEnded
            (λ t r k e. record { opening = opens (dest_count heap.config.shape c.generation) n (map target_of_slot c.slots) t; room = start_roomy heap c all.ready n t; run = k.worked.run; out = e.out }) 0 rs all.each all.ended;
        known = knows_all;
        won_once = won_once_all;
        drawn_once = drawn_least;
        taken = taken_each;
        taken_once = taken_once;
      }

  -- the starts are dealt out to all
  starts_total : (target : ℕ) → total (λ (p : Part). times target p.start.starts) parts ≡ times target (map target_of_slot c.slots)
  starts_total target = by 0 rs all.each ∙ ap (λ k. total (λ (w : Worker). times target w.starts) (opening_workers (dest_count heap.config.shape c.generation) n (map target_of_slot c.slots) 0 k)) all.count ∙ starts_dealt target (dest_count heap.config.shape c.generation) n (map target_of_slot c.slots) all.some
    where
      by : (t : ℕ) (xs : List (ThreadValue P A)) (h : Are known won heap c n t xs) → total (λ (p : Part). times target p.start.starts) (parts_of known won heap c n t xs h) ≡ total (λ (w : Worker). times target w.starts) (opening_workers (dest_count heap.config.shape c.generation) n (map target_of_slot c.slots) t (length xs))
      by t [] h = refl
      by t (x ∷ xs) h = ap (λ k. times target (begins heap c n t).starts + k) (by (t + 1) xs h.1)

  -- what was drawn was free
  pub drawn_has : (number : ℕ) → 0 < total (λ (p : Part). times number p.history.drawn) parts → IsTrue (has heap.free number)
  drawn_has number some =
      let e = drawn_total number in
      member number (all_drawn (draws_of rs)) (all_each (Contains heap.free) (all_drawn (draws_of rs)) all.drawn_free) (omega (arith, some, e))
    where
      member : (x : ℕ) (xs : List ℕ) → Each (Contains heap.free) xs → 0 < times_in x xs → IsTrue (has heap.free x)
      member x [] h l = absurd (omega (arith, l))
      member x (y ∷ ys) h l =
          ⊎_elim
          (λ (same : y ≡ x). subst (λ z. IsTrue (has heap.free z)) same (has-contains heap.free y h.0))
          (λ (ne : y ≢ x). (let none : one_if (nat_eq y x) ≡ 0 = ap one_if (ne_eqb y x ne) in member x ys h.1 (omega (arith, l, none))))
          (cases_eq y x)

  pub brought : Brought heap.graph c.generation heap.config.shape heap.config.block_words n (placed_in all) parts
  brought =
      record {
        joined = joined;
        starts = λ target is. (let s = starts_total target in let l = has_starts heap c all.ready target is in omega (arith, s, l));
        only_starts = each_thread known won heap c n (λ (p : Part). Each (IsLiveOrOlder heap.graph c.generation) p.start.starts) (λ t r k. start_live heap c all.ready n t) 0 rs all.each;
        taken_live = each_thread known won heap c n (λ (p : Part). Each (CopiesLive heap.graph c.generation) p.history.taken) (λ t r k. handed_live heap c n k.worked.history.taken k.worked.handed) 0 rs all.each;
        small_blocks = (let l = all.ready.range.most_words in omega (arith, l));
        fresh = λ number offset some below. heap_empty heap all.ready.sound number offset (drawn_has number some) below;
      }

  pub turns : (t : ℕ) (part : Part) → slice_get parts t ≡ Some part → TurnRun (setting_for heap c n) t part
  turns t part there =
      let r = get-some rs t (let k = parts_length known won heap c n 0 rs all.each in let l = within parts t part there in omega (arith, l, k)) in
      let p = part_first known won heap c n rs all.each t r.0 r.1 in
      subst (TurnRun (setting_for heap c n) t) (some_is (sym p.there ∙ there)) (record { run = p.is.worked.run; turns = p.is.worked.turns })
    where
      some_is : {X : Type 0} {x y : X} → Some x ≡ Some y → x ≡ y
      some_is e = cc

      within : {X : Type 0} (xs : List X) (i : ℕ) (x : X) → slice_get xs i ≡ Some x → i < length xs
      within [] i x e = absurd (cc)
      within (y ∷ ys) zero x e = omega arith
      within (y ∷ ys) (suc i) x e = let l = within ys i x e in omega (arith, l)

  pub threads_keep : KeptBy all
  threads_keep = record {
    parts = parts;
    drawn_free = drawn_has;
    ordered = (
      all_ordered (setting_for heap c n) (placed_in all) parts joined brought.small_blocks brought.fresh turns,
      (
        handed_on (setting_for heap c n) (placed_in all) parts joined brought.small_blocks brought.fresh,
        (
          go_on (setting_for heap c n) (placed_in all) parts joined brought.small_blocks brought.fresh turns,
          scan_own (setting_for heap c n) (placed_in all) parts joined brought.small_blocks brought.fresh turns,
        ),
      ),
    );
    finals = finals_are known won heap c n 0 rs all.each;
    brought = brought;
    kept = kept heap.graph c.generation heap.config.shape heap.config.block_words n (placed_in all) parts brought;
  }
