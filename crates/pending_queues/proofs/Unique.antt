-- One seat has each number, so what is summed over seats with that number is that seat's.
use Rattle.std.proofs.Common.{◌≡◌, ◌≢◌, ℕ, zero, suc, ◌+◌, ◌<◌, ◌==◌, if◌then◌else◌, List, [], ◌∷◌, ◌++◌, length, set, get_or, sym, refl, ap, ◌∙◌, arith, eq-eqb, ne_eqb, length-set, append-nil}
use mathlib.Core.Logic.{dite}
use native.Mathlib.Decide.{ℕ_discrete}
use Rattle.std.specs.List.{sum_by}
use Rattle.std.proofs.lemmas.List.{get_or-set_other, get_or-set_same}
use Rattle.std.proofs.lemmas.List.Sums.{sum_by-cons}
use Rattle.model.specs.Total.{total, one_if}
use Rattle.pending_queues.specs.Labelled.{times_at}
use Rattle.pending_queues.specs.PendingValue.{SeatValue}
use Rattle.pending_queues.specs.SeatPass.{sent_to}
use Rattle.pending_queues.specs.Delivered.{seats_numbered}
use Rattle.pending_queues.specs.Gathered.{all_sent_to}
use Rattle.pending_queues.specs.Telling.{all_left, placed}
use Rattle.pending_queues.specs.declared.exports.deliveries.Delivery.{Delivery}
use Rattle.pending_queues.proofs.Naming.{times_as, times_by}

pub sum-total : {X : Type 0} (f : X → ℕ) (xs : List X) → sum_by f xs ≡ total f xs
sum-total f [] = refl
sum-total f (x ∷ xs) = sum_by-cons f x xs ∙ ap (λ n. f x + n) (sum-total f xs)

module _ {A K : Type 0} where
  -- 1 for a seat with that number
  abbrev numbered : ℕ → SeatValue A K → ℕ
  numbered t s = if s.index == t then 1 else 0

  abbrev pub count_of : ℕ → List (SeatValue A K) → ℕ
  count_of t seats = total (numbered t) seats

  is_numbered : (t : ℕ) (s : SeatValue A K) → s.index ≡ t → numbered t s ≡ 1
  is_numbered t s e = rw (eq-eqb s.index t e) refl

  not_numbered : (t : ℕ) (s : SeatValue A K) → s.index ≢ t → numbered t s ≡ 0
  not_numbered t s ne = rw (ne_eqb s.index t ne) refl

  none_has : (t : ℕ) (seats : List (SeatValue A K)) → count_of t seats ≡ 0 → (k : ℕ) (d : SeatValue A K) → k < length seats → (get_or seats k d).index ≢ t
  none_has t [] none k d lt = absurd (omega arith)
  none_has t (s ∷ seats) none zero d lt = λ e. let h = is_numbered t s e in absurd (omega arith)
  none_has t (s ∷ seats) none (suc k) d lt = none_has t seats (omega arith) k d (omega arith)

  none_times : (t u p : ℕ) (seats : List (SeatValue A K)) → count_of t seats ≡ 0 → times_by t u p seats ≡ 0
  none_times t u p [] none = refl
  none_times t u p (s ∷ seats) none =
      dite (ℕ_discrete s.index t)
      (λ e. let h = is_numbered t s e in absurd (omega arith))
      (λ ne. let h : times_as t u p s ≡ 0 = rw (ne_eqb s.index t ne) refl in let r = none_times t u p seats (omega arith) in omega arith)

  pub own_times : (t u p : ℕ) (seats : List (SeatValue A K)) → count_of t seats ≡ 1 → (k : ℕ) (d : SeatValue A K) → k < length seats → (get_or seats k d).index ≡ t
      → times_by t u p seats ≡ times_at u p (get_or seats k d).taken
  own_times t u p [] one k d lt e = absurd (omega arith)
  own_times t u p (s ∷ seats) one zero d lt e =
      let n = is_numbered t s e in let h : times_as t u p s ≡ times_at u p s.taken = rw (eq-eqb s.index t e) refl in
      let r = none_times t u p seats (omega arith) in omega arith
  own_times t u p (s ∷ seats) one (suc k) d lt e =
      dite (ℕ_discrete s.index t)
      (λ same. let n = is_numbered t s same in absurd (none_has t seats (omega arith) k d (omega arith) e))
      (λ ne. let n = not_numbered t s ne in let h : times_as t u p s ≡ 0 = rw (ne_eqb s.index t ne) refl in let r = own_times t u p seats (omega arith) k d (omega arith) e in omega arith)

  none_sent : (u : ℕ) (seats : List (SeatValue A K)) → count_of u seats ≡ 0 → all_sent_to u seats ≡ []
  none_sent u [] none = refl
  none_sent u (s ∷ seats) none =
      dite (ℕ_discrete s.index u)
      (λ e. let h = is_numbered u s e in absurd (omega arith))
      (λ ne. let h : sent_to u s.index s.sent ≡ [] = rw (ne_eqb u s.index (λ x. ne (sym x))) refl in ap (λ l. l ++ all_sent_to u seats) h ∙ none_sent u seats (let n = not_numbered u s ne in omega arith))

  pub own_sent : (u : ℕ) (seats : List (SeatValue A K)) → count_of u seats ≡ 1 → (k : ℕ) (d : SeatValue A K) → k < length seats → (get_or seats k d).index ≡ u → all_sent_to u seats ≡ (get_or seats k d).sent
  own_sent u [] one k d lt e = absurd (omega arith)
  own_sent u (s ∷ seats) one zero d lt e =
      let n = is_numbered u s e in let h : sent_to u s.index s.sent ≡ s.sent = rw (eq-eqb u s.index (sym e)) refl in
      ap (λ l. l ++ all_sent_to u seats) h ∙ ap (λ l. s.sent ++ l) (none_sent u seats (omega arith)) ∙ append-nil s.sent
  own_sent u (s ∷ seats) one (suc k) d lt e =
      dite (ℕ_discrete s.index u)
      (λ same. let n = is_numbered u s same in absurd (none_has u seats (omega arith) k d (omega arith) e))
      (λ ne. let n = not_numbered u s ne in let h : sent_to u s.index s.sent ≡ [] = rw (ne_eqb u s.index (λ x. ne (sym x))) refl in
      ap (λ l. l ++ all_sent_to u seats) h ∙ own_sent u seats (omega arith) k d (omega arith) e)

  -- the lists that the seats place
  pub length-placed : (lists : List (List Delivery)) (seats : List (SeatValue A K)) → length (placed lists seats) ≡ length lists
  length-placed lists [] = refl
  length-placed lists (s ∷ seats) = length-placed (set lists s.index (all_left s.sent)) seats ∙ length-set lists s.index (all_left s.sent)

  not_placed : (u : ℕ) (lists : List (List Delivery)) (seats : List (SeatValue A K)) → count_of u seats ≡ 0 → get_or (placed lists seats) u [] ≡ get_or lists u []
  not_placed u lists [] none = refl
  not_placed u lists (s ∷ seats) none =
      dite (ℕ_discrete s.index u)
      (λ e. let h = is_numbered u s e in absurd (omega arith))
      (λ ne. not_placed u (set lists s.index (all_left s.sent)) seats (let n = not_numbered u s ne in omega arith)
      ∙ get_or-set_other lists s.index u (all_left s.sent) [] (λ x. ne (sym x)))

  pub own_placed : (u : ℕ) (lists : List (List Delivery)) (seats : List (SeatValue A K)) → u < length lists → count_of u seats ≡ 1
      → (k : ℕ) (d : SeatValue A K) → k < length seats → (get_or seats k d).index ≡ u → get_or (placed lists seats) u [] ≡ all_left (get_or seats k d).sent
  own_placed u lists [] there one k d lt e = absurd (omega arith)
  own_placed u lists (s ∷ seats) there one zero d lt e =
      let n = is_numbered u s e in let l : List (List Delivery) = set lists s.index (all_left s.sent) in
      not_placed u l seats (omega arith) ∙ ap (λ i. get_or (set lists i (all_left s.sent)) u []) e ∙ get_or-set_same lists u (all_left s.sent) [] there
  own_placed u lists (s ∷ seats) there one (suc k) d lt e =
      let l : List (List Delivery) = set lists s.index (all_left s.sent) in let long : u < length l = (let h = length-set lists s.index (all_left s.sent) in omega arith) in
      dite (ℕ_discrete s.index u)
      (λ same. let n = is_numbered u s same in absurd (none_has u seats (omega arith) k d (omega arith) e))
      (λ ne. let n = not_numbered u s ne in own_placed u l seats long (omega arith) k d (omega arith) e)

  -- who sends is who has that number
  pub senders-count : (u : ℕ) (seats : List (SeatValue A K)) → sum_by (λ (s : SeatValue A K). one_if (u == s.index)) seats ≡ count_of u seats
  senders-count u [] = refl
  senders-count u (s ∷ seats) =
      let c = sum_by-cons (λ (x : SeatValue A K). one_if (u == x.index)) s seats in let r = senders-count u seats in
      dite (ℕ_discrete s.index u)
      (λ e. let n = is_numbered u s e in let h : one_if (u == s.index) ≡ 1 = rw (eq-eqb u s.index (sym e)) refl in omega arith)
      (λ ne. let n = not_numbered u s ne in let h : one_if (u == s.index) ≡ 0 = rw (ne_eqb u s.index (λ x. ne (sym x))) refl in omega arith)

  pub numbered-count : (u : ℕ) (seats : List (SeatValue A K)) → seats_numbered u seats ≡ count_of u seats
  numbered-count u seats = sum-total (numbered u) seats
