-- What the gathered passes and marks tell of each exported block, and that what is written down says it.
use Rattle.std.proofs.Common.{◌≡◌, ◌≢◌, ◌≤◌, ℕ, zero, suc, ◌<◌, ◌==◌, ◌&&◌, false, Option, Some, None, List, [], ◌∷◌, ◌++◌, All, length, map, replicate, get_or, sym, refl, ap, ◌∙◌, subst, arith, nat_lt, eq-eqb, option_map, length-set}
use mathlib.Core.Logic.{dite}
use native.Mathlib.Decide.{ℕ_discrete}
use Rattle.std.proofs.Math.Decide.{dec_lt}
use Rattle.std.specs.Prelude.{flat_map, is_some, option_and_then}
use Rattle.std.specs.List.{slice_get, sum_by}
use Rattle.std.proofs.lemmas.Bool.{le-ltb}
use Rattle.std.proofs.lemmas.List.{get_or-set_other, length-map, length-replicate}
use Rattle.std.proofs.lemmas.List.Sums.{sum_by-append}
use Rattle.block_pool.specs.BlockValue.{BlockValue}
use Rattle.model.specs.Total.{one_if}
use Rattle.pending_queues.specs.Labelled.{is_label, times_at}
use Rattle.pending_queues.specs.PassValue.{PassValue, position_of}
use Rattle.pending_queues.specs.PendingValue.{SeatValue}
use Rattle.pending_queues.specs.TallyValue.{TallySeatValue}
use Rattle.pending_queues.specs.SeatPass.{AtEach, taken_from, is_from, has_exporter}
use Rattle.pending_queues.specs.Delivered.{AreDelivered, IsDelivered, is_taker, names_taker, IsLabelledBelow}
use Rattle.pending_queues.specs.Gathered.{all_sent_to, all_taken_from, AreGathered, IsGatheredMark, IsSettled, IsTold}
use Rattle.pending_queues.specs.Written.{with_name, with_taker, with_takers}
use Rattle.pending_queues.specs.Telling.{all_left, placed, named}
use Rattle.pending_queues.specs.declared.exports.deliveries.Delivery.{Delivery}
use Rattle.pending_queues.proofs.Places.{some_at}
use Rattle.pending_queues.proofs.Kept.{filtered}
use Rattle.pending_queues.proofs.Naming.{on_bool, taken_by, here_set, times-cons, one_at, none_here, seat_takers, look_named, all_times, times_by, few_times, one_named, someone, no_one, labels_of}
use Rattle.pending_queues.proofs.Unique.{count_of, own_times, own_sent, own_placed, length-placed, senders-count, numbered-count}

-- a label that isn't the exporter's is none at any position
other_exporter : (u p : ℕ) (label : Option (ℕ × ℕ)) → has_exporter u label ≡ false → is_label u p label ≡ false
other_exporter u p None e = refl
other_exporter u p (Some l) e = ap (λ b. b && (l.1 == p)) e

-- those of another exporter count for nothing
pub times-from : (u p : ℕ) (blocks : List BlockValue) → times_at u p (taken_from u blocks) ≡ times_at u p blocks
times-from u p [] = refl
times-from u p (b ∷ bs) =
    let c = times-cons u p b bs in let r = times-from u p bs in
    on_bool (is_from u b)
    (λ e. let k : taken_from u (b ∷ bs) ≡ b ∷ taken_from u bs = rw e refl in let n = times-cons u p b (taken_from u bs) in let m = ap (times_at u p) k in omega arith)
    (λ e. let k : taken_from u (b ∷ bs) ≡ taken_from u bs = rw e refl in let m = ap (times_at u p) k in let h = none_here u p b (other_exporter u p b.sent e) in omega arith)

all_first : {Y : Type 0} (P : Y → Type 0) (ys zs : List Y) → All P (ys ++ zs) → All P ys
all_first P [] zs all i e lt = absurd (omega arith)
all_first P (y ∷ ys) zs all zero e lt = all 0 e (omega arith)
all_first P (y ∷ ys) zs all (suc i) e lt = all_first P ys zs (λ j z l. all (suc j) z (omega arith)) i e (omega arith)

all_rest : {Y : Type 0} (P : Y → Type 0) (ys zs : List Y) → All P (ys ++ zs) → All P zs
all_rest P [] zs all = all
all_rest P (y ∷ ys) zs all = all_rest P ys zs (λ j z l. all (suc j) z (omega arith))

-- what holds of each of what elements give holds of what each gives
all_each : {X Y : Type 0} (P : Y → Type 0) (f : X → List Y) (xs : List X) → All P (flat_map f xs) → (k : ℕ) (d : X) → k < length xs → All P (f (get_or xs k d))
all_each P f [] h k d lt = absurd (omega arith)
all_each P f (x ∷ xs) h zero d lt = all_first P (f x) (flat_map f xs) h
all_each P f (x ∷ xs) h (suc k) d lt = all_each P f xs (all_rest P (f x) (flat_map f xs) h) k d (omega arith)

-- naming takers changes no number of objects
abbrev pub objects : List Delivery → List ℕ
objects list = map (λ (d : Delivery). d.objects) list

objects_name : (list : List Delivery) (p t : ℕ) → objects (with_name list p t) ≡ objects list
objects_name [] p t = refl
objects_name (d ∷ ds) zero t = refl
objects_name (d ∷ ds) (suc p) t = ap (λ l. d.objects ∷ l) (objects_name ds p t)

objects_taker : (lists : List (List Delivery)) (t u : ℕ) (label : Option (ℕ × ℕ)) → objects (get_or (with_taker lists t label) u []) ≡ objects (get_or lists u [])
objects_taker lists t u None = refl
objects_taker lists t u (Some (e, q)) =
    dite (ℕ_discrete e u)
    (λ (same : e ≡ u). ap (λ n. objects (get_or (with_taker lists t (Some (e, q))) n [])) (sym same) ∙ ap objects (here_set lists e (λ l. with_name l q t) refl)
    ∙ objects_name (get_or lists e []) q t ∙ ap (λ n. objects (get_or lists n [])) same)
    (λ (other : e ≢ u). ap objects (get_or-set_other lists e u (with_name (get_or lists e []) q t) [] (λ h. other (sym h))))

objects_takers : (lists : List (List Delivery)) (t u : ℕ) (labels : List (Option (ℕ × ℕ))) → objects (get_or (with_takers lists t labels) u []) ≡ objects (get_or lists u [])
objects_takers lists t u [] = refl
objects_takers lists t u (label ∷ labels) = objects_takers (with_taker lists t label) t u labels ∙ objects_taker lists t u label

length_taker : (lists : List (List Delivery)) (t : ℕ) (label : Option (ℕ × ℕ)) → length (with_taker lists t label) ≡ length lists
length_taker lists t None = refl
length_taker lists t (Some (e, q)) = length-set lists e (with_name (get_or lists e []) q t)

length_takers : (lists : List (List Delivery)) (t : ℕ) (labels : List (Option (ℕ × ℕ))) → length (with_takers lists t labels) ≡ length lists
length_takers lists t [] = refl
length_takers lists t (label ∷ labels) = length_takers (with_taker lists t label) t labels ∙ length_taker lists t label

-- what a look at blocks that are left gives, once takers were named
left_taker : (f : Option ℕ → Option ℕ) (blocks : List BlockValue) (p : ℕ) (d : Delivery) → taken_by f (slice_get (all_left blocks) p) ≡ Some d → d.taker ≡ f None
left_taker f [] p d e = cc
left_taker f (b ∷ bs) zero d e = let h : Some (f None) ≡ Some d.taker = ap (option_map (λ (x : Delivery). x.taker)) e in sym (inside (f None) d.taker h)
  where
    inside : (x y : Option ℕ) → Some x ≡ Some y → x ≡ y
    inside x y e = cc
left_taker f (b ∷ bs) (suc p) d e = left_taker f bs p d e

left_named : (f : Option ℕ → Option ℕ) (blocks : List BlockValue) (p t : ℕ) → p < length blocks → is_taker t (option_and_then (λ (d : Delivery). d.taker) (taken_by f (slice_get (all_left blocks) p))) ≡ is_taker t (f None)
left_named f [] p t lt = absurd (omega arith)
left_named f (b ∷ bs) zero t lt = refl
left_named f (b ∷ bs) (suc p) t lt = left_named f bs p t (omega arith)

past_named : (f : Option ℕ → Option ℕ) (blocks : List BlockValue) (p t : ℕ) → length blocks ≤ p → is_taker t (option_and_then (λ (d : Delivery). d.taker) (taken_by f (slice_get (all_left blocks) p))) ≡ 0
past_named f [] p t le = refl
past_named f (b ∷ bs) zero t le = absurd (omega arith)
past_named f (b ∷ bs) (suc p) t le = past_named f bs p t (omega arith)

sizes_left : (blocks : List BlockValue) → objects (all_left blocks) ≡ map (λ (b : BlockValue). length b.objects) blocks
sizes_left [] = refl
sizes_left (b ∷ bs) = ap (λ l. length b.objects ∷ l) (sizes_left bs)

module _ {A K : Type 0} where
  pub objects_named : (lists : List (List Delivery)) (u : ℕ) (seats : List (SeatValue A K)) → objects (get_or (named lists seats) u []) ≡ objects (get_or lists u [])
  objects_named lists u [] = refl
  objects_named lists u (s ∷ seats) = objects_named (with_takers lists s.index (labels_of s.taken)) u seats ∙ objects_takers lists s.index u (labels_of s.taken)

  pub length_named : (lists : List (List Delivery)) (seats : List (SeatValue A K)) → length (named lists seats) ≡ length lists
  length_named lists [] = refl
  length_named lists (s ∷ seats) = length_named (with_takers lists s.index (labels_of s.taken)) seats ∙ length_takers lists s.index (labels_of s.taken)

  -- what all seats took, seat by seat
  pub times-all : (u p : ℕ) (seats : List (SeatValue A K)) → times_at u p (all_taken_from u seats) ≡ all_times u p seats
  times-all u p [] = refl
  times-all u p (s ∷ seats) =
      sum_by-append (one_at u p) (taken_from u s.taken) (all_taken_from u seats) ∙ (let h = times-from u p s.taken in let r = times-all u p seats in omega arith)

  pub told : (key : K) (n : ℕ) (seats : List (SeatValue A K)) (passes : List (PassValue A K)) (marks : List TallySeatValue) (u : ℕ)
      → AreGathered key n seats passes → AtEach (λ i p. IsSettled p) passes → AtEach (λ i m. IsGatheredMark seats i m) marks → AtEach (λ i m. m.seen ≤ m.raised) marks
      → u < length passes → u < length marks → IsTold seats u
  told key n seats passes marks u gathered settled marked seen lp lm =
      let p = some_at passes u lp in let m = some_at marks u lm in
      let e = gathered u p.0 p.1 in let s = settled u p.0 p.1 in let k = marked u m.0 m.1 in
      let taken : p.0.taken ≡ all_taken_from u seats = ap (λ q. q.taken) e in
      let sent : p.0.sent ≡ all_sent_to u seats = ap (λ q. q.sent) e in record {
        one = numbered-count u seats ∙ (sym (ap (λ q. q.senders) e ∙ senders-count u seats) ∙ s.whole.one_sender);
        as_sent = subst (λ (x : List BlockValue × List BlockValue). All (λ b. slice_get x.0 (position_of b) ≡ Some b) x.1) (λ i. (sent i, taken i)) s.whole.as_sent;
        once = λ q. ap (times_at u q) (sym taken) ∙ ap (λ a. times_at a q p.0.taken) (sym (ap (λ x. x.about.exporter) e)) ∙ s.whole.once q ∙ ap (λ l. one_if (nat_lt q (length l))) taken;
        few = (let f = s.few in let a = ap length taken in let b = ap length sent in omega arith);
        cleared = λ j d lt own. let c = k.seen j d lt own in let r = k.raised in let h = seen u m.0 m.1 in omega arith;
      }

  -- the first so many blocks have a taker
  is_front : (seats : List (SeatValue A K)) (u p count : ℕ) → all_times u p seats ≡ one_if (nat_lt p count) → is_some (seat_takers u p seats None) ≡ nat_lt p count
  is_front seats u p count once =
      on_bool (nat_lt p count)
      (λ e. someone u p seats None (once ∙ ap one_if e) ∙ sym e)
      (λ e. ap is_some (no_one u p seats (once ∙ ap one_if e)) ∙ sym e)

  -- each seat is named where it took the block, and nowhere else
  taken_named : (seats : List (SeatValue A K)) (lists : List (List Delivery)) → ((i : ℕ) → i < length seats → IsTold seats i) → All (λ s. s.index < length seats) seats
      → (u p count : ℕ) (sent : List BlockValue) → slice_get (get_or lists u []) p ≡ taken_by (seat_takers u p seats) (slice_get (all_left sent) p)
      → all_times u p seats ≡ one_if (nat_lt p count) → count ≤ length sent
      → (j : ℕ) (e : SeatValue A K) → j < length seats → times_at u p (get_or seats j e).taken ≡ names_taker (get_or lists u []) p (get_or seats j e).index
  taken_named seats lists all own u p count sent there once few j e lt =
      let t : ℕ = (get_or seats j e).index in
      let mine : times_by t u p seats ≡ times_at u p (get_or seats j e).taken = own_times t u p seats (sym (numbered-count t seats) ∙ (all t (own j e lt)).one) j e lt refl in
      let most = few_times t u p seats in
      let look_there = ap (λ o. is_taker t (option_and_then (λ (d : Delivery). d.taker) o)) there in
      dite (dec_lt p (length sent))
      (λ (inside : p < length sent).
      on_bool (nat_lt p count)
      (λ h. sym mine ∙ sym (one_named t u p seats None (once ∙ ap one_if h)) ∙ sym (look_there ∙ left_named (seat_takers u p seats) sent p t inside))
      (λ h. let none : all_times u p seats ≡ 0 = once ∙ ap one_if h in let zero_times : times_at u p (get_or seats j e).taken ≡ 0 = omega arith in
      zero_times ∙ sym (look_there ∙ left_named (seat_takers u p seats) sent p t inside ∙ ap (is_taker t) (no_one u p seats none))))
      (λ (outside : ¬ (p < length sent)).
      let none : all_times u p seats ≡ 0 = once ∙ ap one_if (le-ltb p count (omega arith)) in let zero_times : times_at u p (get_or seats j e).taken ≡ 0 = omega arith in
      zero_times ∙ sym (look_there ∙ past_named (seat_takers u p seats) sent p t (omega arith)))

  -- the two ways to add up
  summed : (u p : ℕ) (seats : List (SeatValue A K)) → sum_by (λ (s : SeatValue A K). times_at u p s.taken) seats ≡ all_times u p seats
  summed u p [] = refl
  summed u p (s ∷ seats) = let r = summed u p seats in let h = sum_by-append (λ (x : SeatValue A K). times_at u p x.taken) (s ∷ []) seats in omega arith

  -- what is written down of one exporter's blocks
  pub delivered : (seats : List (SeatValue A K)) (lists : List (List Delivery)) → lists ≡ named (placed (replicate (length seats) []) seats) seats
      → ((u : ℕ) → u < length seats → IsTold seats u) → All (λ s. s.index < length seats) seats
      → (k : ℕ) (d : SeatValue A K) → k < length seats → IsDelivered seats (get_or seats k d) (get_or lists (get_or seats k d).index [])
  delivered seats lists is all own k d lt =
      let s : SeatValue A K = get_or seats k d in
      let u : ℕ = s.index in
      let here : u < length seats = own k d lt in
      let t : IsTold seats u = all u here in
      let alone : count_of u seats ≡ 1 = sym (numbered-count u seats) ∙ t.one in
      let once : (p : ℕ) → all_times u p seats ≡ one_if (nat_lt p (length (all_taken_from u seats))) = λ p. sym (times-all u p seats) ∙ t.once p in
      let first : List (List Delivery) = placed (replicate (length seats) []) seats in
      let room : u < length (replicate {A = List Delivery} (length seats) []) = (let r = length-replicate {A = List Delivery} (length seats) [] in omega arith) in
      let mine : get_or first u [] ≡ all_left s.sent = own_placed u (replicate (length seats) []) seats room alone k d lt refl in
      let list : List Delivery = get_or lists u [] in
      let count : ℕ = length (all_taken_from u seats) in
      let same : list ≡ get_or (named first seats) u [] = ap (λ l. get_or l u []) is in
      let sizes : objects list ≡ map (λ (b : BlockValue). length b.objects) s.sent =
      ap objects same ∙ objects_named first u seats ∙ ap objects mine ∙ sizes_left s.sent in
      let sent : all_sent_to u seats ≡ s.sent = own_sent u seats alone k d lt refl in
      let long : length list ≡ length s.sent = sym (length-map list (λ (x : Delivery). x.objects)) ∙ ap length sizes ∙ length-map s.sent (λ (b : BlockValue). length b.objects) in
      let many : length (all_sent_to u seats) ≡ length s.sent = ap length sent in
      let look_at : (p : ℕ) → slice_get list p ≡ taken_by (seat_takers u p seats) (slice_get (all_left s.sent) p) =
      λ p. ap (λ l. slice_get l p) same ∙ look_named first u p seats ∙ ap (λ l. taken_by (seat_takers u p seats) (slice_get l p)) mine in
      record {
        objects = sizes;
        count = count;
        front = λ p x e. ap is_some (left_taker (seat_takers u p seats) s.sent p x (sym (look_at p) ∙ e)) ∙ is_front seats u p count (once p);
        few = (let f = t.few in omega arith);
        takers = λ j e l p. taken_named seats lists all own u p count s.sent (look_at p) (once p) (let f = t.few in omega arith) j e l;
        once = λ p. summed u p seats ∙ once p;
        as_sent = λ j e l i b li label. ap (λ x. slice_get x (position_of (get_or (get_or seats j e).taken i b))) (sym sent)
            ∙ filtered (is_from u) (λ (x : BlockValue). slice_get (all_sent_to u seats) (position_of x) ≡ Some x) (get_or seats j e).taken
            (all_each (λ (x : BlockValue). slice_get (all_sent_to u seats) (position_of x) ≡ Some x) (λ (y : SeatValue A K). taken_from u y.taken) seats t.as_sent j e l)
            i b li (rw label (eq-eqb u u refl));
        cleared = t.cleared k d lt refl;
      }

  -- what is written down of all exporters' blocks
  pub all_delivered : (seats : List (SeatValue A K)) (lists : List (List Delivery)) → lists ≡ named (placed (replicate (length seats) []) seats) seats
      → ((u : ℕ) → u < length seats → IsTold seats u) → All (λ s. s.index < length seats) seats
      → All (λ (s : SeatValue A K). All (IsLabelledBelow (length seats)) s.taken) seats → AreDelivered seats lists
  all_delivered seats lists is all own labels = record {
    many = ap length is ∙ length_named (placed (replicate (length seats) []) seats) seats ∙ length-placed (replicate (length seats) []) seats ∙ length-replicate {A = List Delivery} (length seats) [];
    numbers = λ u lt. (all u lt).one;
    each = delivered seats lists is all own;
    labels = labels;
  }
