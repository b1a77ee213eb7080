-- What one seat has, and what seats have together.
use Rattle.std.proofs.Common.{◌≡◌, ◌≤◌, ℕ, suc, ◌+◌, ◌<◌, ◌==◌, max, Some, List, [], ◌∷◌, ◌++◌, All, length, get_or, sym, refl, ap, ◌∙◌, subst, arith, append-nil, length-append}
use Rattle.std.specs.List.{slice_get, sum_by}
use Rattle.std.proofs.Math.Nat.{le-max_left, le-max_right}
use Rattle.std.proofs.lemmas.List.Elements.{All-cons}
use Rattle.std.proofs.lemmas.List.Sums.{sum_by-cons}
use Rattle.std.proofs.lemmas.Option.{slice_get_within, slice_get-get_or}
use Rattle.crossbeam_queue.specs.SegTies.{SegId}
use Rattle.model.specs.Total.{one_if}
use Rattle.pending_queues.specs.PassValue.{PassValue, both}
use Rattle.pending_queues.specs.PendingValue.{Source, SeatValue}
use Rattle.pending_queues.specs.TallyValue.{TallySeatValue, both_seats}
use Rattle.pending_queues.specs.SeatPass.{AtEach, pass_of, sent_to, taken_from}
use Rattle.pending_queues.specs.Gathered.{all_sent_to, all_taken_from, gathered_pass, AreGathered, IsGatheredMark}
use Rattle.pending_queues.proofs.Places.{inside, some_at}

module _ {A K : Type 0} where
  -- one seat's pass
  pub one_pass : (lane : SegId A) (key : K) (n u : ℕ) (s : SeatValue A K) → pass_of lane key n s.index s.sent s.taken u ≡ gathered_pass lane key n (s ∷ []) u
  one_pass lane key n u s =
      let f : SeatValue A K → ℕ = λ x. one_if (u == x.index) in
      let senders : f s ≡ sum_by f (s ∷ []) = sym (sum_by-cons f s [] ∙ omega arith) in
      (λ i. record {
        lane = lane;
        about = record { key = key; exporter = u; seats = n };
        parts = 1;
        senders = senders i;
        sent = sym (append-nil (sent_to u s.index s.sent)) i;
        taken = sym (append-nil (taken_from u s.taken)) i;
      })

  -- one seat more
  more_pass : (key : K) (n u : ℕ) (s : SeatValue A K) (seats : List (SeatValue A K)) (p q : PassValue A K) → p ≡ gathered_pass p.lane key n (s ∷ []) u → q ≡ gathered_pass q.lane key n seats u
      → both p q ≡ gathered_pass (both p q).lane key n (s ∷ seats) u
  more_pass key n u s seats p q ep eq =
      let f : SeatValue A K → ℕ = λ x. one_if (u == x.index) in
      let one = sum_by-cons f s [] in let many = sum_by-cons f s seats in
      let parts : p.parts + q.parts ≡ suc (length seats) = (let a = ap (λ x. x.parts) ep in let b = ap (λ x. x.parts) eq in omega arith) in
      let senders : p.senders + q.senders ≡ sum_by f (s ∷ seats) = (let a = ap (λ x. x.senders) ep in let b = ap (λ x. x.senders) eq in let z : sum_by f [] ≡ 0 = refl in omega arith) in
      let sent : p.sent ++ q.sent ≡ all_sent_to u (s ∷ seats) = (λ i. (ap (λ x. x.sent) ep ∙ append-nil (sent_to u s.index s.sent)) i ++ (eq i).sent) in
      let taken : p.taken ++ q.taken ≡ all_taken_from u (s ∷ seats) = (λ i. (ap (λ x. x.taken) ep ∙ append-nil (taken_from u s.taken)) i ++ (eq i).taken) in
      (λ i. record { lane = p.lane; about = (ep i).about; parts = parts i; senders = senders i; sent = sent i; taken = taken i })

  pub more_passes : (key : K) (n : ℕ) (s : SeatValue A K) (seats : List (SeatValue A K)) (old others new : List (PassValue A K)) → AreGathered key n (s ∷ []) old → AreGathered key n seats others
      → length new ≡ length old → length others ≡ length old
      → ((u : ℕ) (p q : PassValue A K) → slice_get old u ≡ Some p → slice_get others u ≡ Some q → slice_get new u ≡ Some (both p q))
      → AreGathered key n (s ∷ seats) new
  more_passes key n s seats old others new mine theirs len len' joined u x at =
      let lt = slice_get_within new u x at in
      let p = some_at old u (omega arith) in let q = some_at others u (omega arith) in
      let e : both p.0 q.0 ≡ x = inside (both p.0 q.0) x (sym (joined u p.0 q.0 p.1 q.1) ∙ at) in
      subst (λ y. y ≡ gathered_pass y.lane key n (s ∷ seats) u) e (more_pass key n u s seats p.0 q.0 (mine u p.0 p.1) (theirs u q.0 q.1))

  more_mark : (u : ℕ) (s : SeatValue A K) (seats : List (SeatValue A K)) (m k : TallySeatValue) → IsGatheredMark (s ∷ []) u m → IsGatheredMark seats u k → IsGatheredMark (s ∷ seats) u (both_seats m k)
  more_mark u s seats m k mine theirs = record {
    parts = (let a = mine.parts in let b = theirs.parts in omega arith);
    raised = (let a = mine.raised in let b = theirs.raised in let l = length-append (taken_from u s.taken) (all_taken_from u seats) in let z = ap length (append-nil (taken_from u s.taken)) in omega arith);
    seen = All-cons (λ (x : SeatValue A K). x.index ≡ u → x.cleared ≤ max m.seen k.seen) s seats
        (λ own. let h = mine.seen 0 s (omega arith) own in let g = le-max_left m.seen k.seen in omega arith)
        (λ j d lt own. let h = theirs.seen j d lt own in let g = le-max_right m.seen k.seen in omega arith);
  }

  pub more_marks : (s : SeatValue A K) (seats : List (SeatValue A K)) (old others new : List TallySeatValue) → AtEach (λ u m. IsGatheredMark (s ∷ []) u m) old → AtEach (λ u m. IsGatheredMark seats u m) others
      → length new ≡ length old → length others ≡ length old
      → ((u : ℕ) (p q : TallySeatValue) → slice_get old u ≡ Some p → slice_get others u ≡ Some q → slice_get new u ≡ Some (both_seats p q))
      → AtEach (λ u m. IsGatheredMark (s ∷ seats) u m) new
  more_marks s seats old others new mine theirs len len' joined u x at =
      let lt = slice_get_within new u x at in
      let p = some_at old u (omega arith) in let q = some_at others u (omega arith) in
      let e : both_seats p.0 q.0 ≡ x = inside (both_seats p.0 q.0) x (sym (joined u p.0 q.0 p.1 q.1) ∙ at) in
      subst (λ y. IsGatheredMark (s ∷ seats) u y) e (more_mark u s seats p.0 q.0 (mine u p.0 p.1) (theirs u q.0 q.1))

  -- all parts are there
  pub all_parts : (key : K) (n : ℕ) (seats : List (SeatValue A K)) (passes : List (PassValue A K)) → AreGathered key n seats passes → 0 < length seats → All (λ p. 0 < p.parts) passes
  all_parts key n seats passes gathered some k d lt =
      let e = ap (λ x. x.parts) (gathered k (get_or passes k d) (slice_get-get_or passes k d lt)) in omega arith

  pub whole_parts : (key : K) (n : ℕ) (seats : List (SeatValue A K)) (passes : List (PassValue A K)) → AreGathered key n seats passes → 0 < length seats → length seats ≡ n
      → All (λ p. (0 < p.parts) × (p.parts ≡ p.about.seats)) passes
  whole_parts key n seats passes gathered some all k d lt =
      let e = gathered k (get_or passes k d) (slice_get-get_or passes k d lt) in
      let parts = ap (λ x. x.parts) e in let count = ap (λ x. x.about.seats) e in (omega arith, parts ∙ all ∙ sym count)

  pub mark_parts : (n : ℕ) (seats : List (SeatValue A K)) (marks : List TallySeatValue) → AtEach (λ u m. IsGatheredMark seats u m) marks → length seats ≡ n → All (λ m. m.parts ≡ n) marks
  mark_parts n seats marks gathered all k d lt = (gathered k (get_or marks k d) (slice_get-get_or marks k d lt)).parts ∙ all

  -- a seat's pass, as one of the queues'
  pub of_queues : (source own : Source A K) (s : SeatValue A K) (passes : List (PassValue A K)) → own ≡ source → AreGathered own.key (length own.lanes) (s ∷ []) passes
      → AreGathered source.key (length source.lanes) (s ∷ []) passes
  of_queues source own s passes same = subst (λ (x : Source A K). AreGathered x.key (length x.lanes) (s ∷ []) passes) same
