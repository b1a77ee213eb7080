-- In a run exports are taken in their order.
use Rattle.std.proofs.Common.{◌≡◌, ◌≢◌, ℕ, zero, suc, ◌+◌, ◌<◌, ◌&&◌, Bool, true, false, List, [], ◌∷◌, ◌++◌, Option, Some, refl, sym, ap, subst, ◌∙◌, ⊎_elim, set, length, replicate, cond, arith, nat_eq, eq-eqb, eqb-true, ne_eqb, le-ltb, length-append, append-nil}
use Rattle.std.proofs.lemmas.Bool.{cases_eq}
use Rattle.std.specs.Prelude.{slice_get}
use Rattle.std.specs.Option.{option_map_or}
use Rattle.workers.specs.Block.{Block, updated}
use Rattle.workers.specs.Setting.{Setting}
use Rattle.workers.specs.WorkerSteps.{after_aside, after_take}
use Rattle.workers.specs.System.{System, Event, Look, Race, Scan, Export, Take, Own, OwnLarge, Idle, Wake, End, opening, opening_workers}
use Rattle.workers.specs.Steps.{Step, Exports, Takes}
use Rattle.workers.specs.Steps as steps
use Rattle.workers.specs.Total.{one_if}
use Rattle.workers.specs.Joined.{Each}
use Rattle.workers.specs.Ordered.{IsRising, rests}
use Rattle.workers.specs.Finish.{IsReached}
use Rattle.workers.proofs.Lists.{Each-append, Each-updated, none-some, get-lt, get-some, length-set_any, length-updated}
use Rattle.workers.proofs.SystemQueues.{get-set_same, get-set_other}
use Rattle.workers.specs.Taken.{takings, positions_of, IsTakenFrom, AreTakenInOrder}
use Rattle.workers.proofs.TakenLists.{updated-same, updated-other, rests-push, rests-first, rising-push, at-pushed, below-suc, takings-push, positions-push, taken-below}

-- at the opening nothing was exported
module _ (d n : ℕ) (slots free : List ℕ) where
  all_empty : {A : Type 0} (k u : ℕ) (xs : List A) → slice_get (replicate k []) u ≡ Some xs → xs ≡ []
  all_empty zero u xs e = absurd (none-some e)
  all_empty (suc k) zero xs e = let q : [] ≡ xs = cc in sym q
  all_empty (suc k) (suc u) xs e = all_empty k u xs e

  no_takings : (u i k : ℕ) → takings u i (replicate k []) ≡ 0
  no_takings u i zero = refl
  no_takings u i (suc k) = let h : takings u i (replicate k []) ≡ 0 = no_takings u i k in omega arith

  no_exporters : (P : List (ℕ × ℕ) → Type 0) → P [] → (k : ℕ) → Each P (replicate k [])
  no_exporters P p zero = tt
  no_exporters P p (suc k) = (p, no_exporters P p k)

  length-replicate : {A : Type 0} (x : A) (k t : ℕ) → length (replicate k x) ≡ length (opening_workers d n slots t k)
  length-replicate x zero t = refl
  length-replicate x (suc k) t = ap suc (length-replicate x k (t + 1))

  same_replicate : (k u : ℕ) (xs : List Block) → slice_get (replicate k []) u ≡ Some xs → slice_get (replicate {A = List Block} k []) u ≡ Some []
  same_replicate k u xs e = e ∙ ap Some (all_empty k u xs e)

  opening_taken : AreTakenInOrder (opening d n slots free)
  opening_taken =
      record {
        lists = record { exported = length-replicate [] n 0; queues = length-replicate [] n 0; taken = length-replicate [] n 0 };
        exports = λ u exports e. record {
          front = 0;
          within = omega arith;
          labelled = λ i block g. absurd (none-some (ap (λ xs. slice_get xs i) (sym (all_empty n u exports e)) ∙ g));
          queue = same_replicate n u exports e ∙ ap (λ xs. Some (rests 0 xs)) (sym (all_empty n u exports e));
          taken = λ i. no_takings u i n ∙ sym (ap one_if (le-ltb i 0 (omega arith)));
        };
        rising = λ t es e u. subst (λ xs. IsRising (positions_of u xs)) (sym (all_empty n t es e)) tt;
        exporters = no_exporters (Each (λ (e : ℕ × ℕ). e.0 < length (opening_workers d n slots 0 n))) tt n;
      }

-- an event that neither exports nor takes
quiet_taken : (s s' : System) → length s'.workers ≡ length s.workers → s'.queues ≡ s.queues → s'.exported ≡ s.exported → s'.taken ≡ s.taken → AreTakenInOrder s → AreTakenInOrder s'
quiet_taken s s' w q x l a =
    record {
      lists = record { exported = ap length x ∙ a.lists.exported ∙ sym w; queues = ap length q ∙ a.lists.queues ∙ sym w; taken = ap length l ∙ a.lists.taken ∙ sym w };
      exports = λ u exports e. (
          let f = a.exports u exports (ap (λ z. slice_get z u) (sym x) ∙ e) in
          record { front = f.front; within = f.within; labelled = f.labelled; queue = ap (λ z. slice_get z u) q ∙ f.queue; taken = λ i. ap (takings u i) l ∙ f.taken i });
      rising = λ t es e. a.rising t es (ap (λ z. slice_get z t) (sym l) ∙ e);
      exporters = subst (λ m. Each (λ (es : List (ℕ × ℕ)). Each (λ (e : ℕ × ℕ). e.0 < m) es) s'.taken) (sym w) (subst (Each (λ (es : List (ℕ × ℕ)). Each (λ (e : ℕ × ℕ). e.0 < length s.workers) es)) (sym l) a.exporters);
    }

-- worker t exports its oldest block aside
module _ (s s' : System) (t : ℕ) (r : Exports s t s') (a : AreTakenInOrder s) where
  abbrev sent_block : Block
  sent_block = record r.block { sent = Some (t, length r.sent) }

  abbrev with_sent : List Block → List Block
  with_sent xs = xs ++ sent_block ∷ []

  abbrev exported_state : System
  exported_state = record s { workers = set s.workers t (after_aside r.worker); queues = updated with_sent s.queues t; exported = updated with_sent s.exported t }

  before : IsTakenFrom s t r.sent
  before = a.exports t r.sent r.sent_is

  exporter_taken : IsTakenFrom exported_state t (with_sent r.sent)
  exporter_taken =
      record {
        front = before.front;
        within = (let l = before.within in let n = length-append r.sent (sent_block ∷ []) in omega arith);
        labelled = λ i block e. at-pushed r.sent sent_block block i e (λ k x. x.sent ≡ Some (t, k)) before.labelled refl;
        queue = updated-same with_sent s.queues t (rests before.front r.sent) before.queue ∙ ap Some (sym (rests-push before.front r.sent sent_block before.within));
        taken = before.taken;
      }

  exported_taken : AreTakenInOrder exported_state
  exported_taken =
      record {
        lists = record {
          exported = length-updated with_sent s.exported t ∙ a.lists.exported ∙ workers;
          queues = length-updated with_sent s.queues t ∙ a.lists.queues ∙ workers;
          taken = a.lists.taken ∙ workers;
        };
        exports = λ u exports e. ⊎_elim (λ (q : u ≡ t). mine u exports e q) (λ (n : u ≢ t). others u exports e n) (cases_eq u t);
        rising = a.rising;
        exporters = subst (λ m. Each (λ (es : List (ℕ × ℕ)). Each (λ (e : ℕ × ℕ). e.0 < m) es) s.taken) workers a.exporters;
      }
    where
      workers : length s.workers ≡ length (set s.workers t (after_aside r.worker))
      workers = sym (length-set_any s.workers t (after_aside r.worker))

      mine : (u : ℕ) (exports : List Block) → slice_get (updated with_sent s.exported t) u ≡ Some exports → u ≡ t → IsTakenFrom exported_state u exports
      mine u exports e q =
          let c : Some (with_sent r.sent) ≡ Some exports = sym (updated-same with_sent s.exported t r.sent r.sent_is) ∙ ap (slice_get (updated with_sent s.exported t)) (sym q) ∙ e in
          let d : with_sent r.sent ≡ exports = cc in
          subst (λ v. IsTakenFrom exported_state v exports) (sym q) (subst (IsTakenFrom exported_state t) d exporter_taken)

      others : (u : ℕ) (exports : List Block) → slice_get (updated with_sent s.exported t) u ≡ Some exports → u ≢ t → IsTakenFrom exported_state u exports
      others u exports e n =
          let f = a.exports u exports (sym (updated-other with_sent s.exported t u n) ∙ e) in
          record { front = f.front; within = f.within; labelled = f.labelled; queue = updated-other with_sent s.queues t u n ∙ f.queue; taken = f.taken }

same_position : (u i j : ℕ) → ◌≡◌ {A = Option (ℕ × ℕ)} (Some (u, i)) (Some (u, j)) → i ≡ j
same_position u i j e = ap (λ o. option_map_or (λ (p : ℕ × ℕ). p.1) o 0) e

-- worker t takes the front of worker u's queue
module _ (s s' : System) (t u : ℕ) (r : Takes s t u s') (a : AreTakenInOrder s) where
  exporter : (exports : List Block) × (slice_get s.exported u ≡ Some exports)
  exporter = let l : u < length s.queues = get-lt s.queues u (r.block ∷ r.rest) r.front in let p = a.lists.queues in let q = a.lists.exported in get-some s.exported u (omega arith)

  taker : (es : List (ℕ × ℕ)) × (slice_get s.taken t ≡ Some es)
  taker = let l : t < length s.workers = get-lt s.workers t r.worker r.at.is in let p = a.lists.taken in get-some s.taken t (omega arith)

  source : IsTakenFrom s u exporter.0
  source = a.exports u exporter.0 exporter.1

  first : (slice_get exporter.0 source.front ≡ Some r.block) × (rests (suc source.front) exporter.0 ≡ r.rest)
  first = let e : Some (rests source.front exporter.0) ≡ Some (r.block ∷ r.rest) = sym source.queue ∙ r.front in rests-first source.front exporter.0 r.block r.rest cc

  at_front : r.position ≡ source.front
  at_front = same_position u r.position source.front (sym r.labelled ∙ source.labelled source.front r.block first.0)

  abbrev with_taken : List (ℕ × ℕ) → List (ℕ × ℕ)
  with_taken es = es ++ (u, r.position) ∷ []

  abbrev taken_state : System
  taken_state = record s { workers = set s.workers t (after_take r.worker r.block); queues = set s.queues u r.rest; taken = updated with_taken s.taken t }

  counts : (v i : ℕ) → takings v i (updated with_taken s.taken t) ≡ takings v i s.taken + one_if (nat_eq u v && nat_eq r.position i)
  counts v i = takings-push v i u r.position t s.taken taker.0 taker.1

  taken_taken : AreTakenInOrder taken_state
  taken_taken =
      record {
        lists = record {
          exported = a.lists.exported ∙ workers;
          queues = length-set_any s.queues u r.rest ∙ a.lists.queues ∙ workers;
          taken = length-updated with_taken s.taken t ∙ a.lists.taken ∙ workers;
        };
        exports = λ v exports e. ⊎_elim (λ (q : v ≡ u). subst (λ w. IsTakenFrom taken_state w exports) (sym q) (mine exports (ap (slice_get s.exported) (sym q) ∙ e))) (λ (n : v ≢ u). others v exports e n) (cases_eq v u);
        rising = λ v es e w. ⊎_elim (λ (q : v ≡ t). rising_here es (ap (slice_get (updated with_taken s.taken t)) (sym q) ∙ e) w) (λ (n : v ≢ t). a.rising v es (sym (updated-other with_taken s.taken t v n) ∙ e) w) (cases_eq v t);
        exporters = subst (λ m. Each (λ (es : List (ℕ × ℕ)). Each (λ (e : ℕ × ℕ). e.0 < m) es) (updated with_taken s.taken t)) workers
            (Each-updated (Each (λ (e : ℕ × ℕ). e.0 < length s.workers)) with_taken (λ es h. Each-append (λ (e : ℕ × ℕ). e.0 < length s.workers) es ((u, r.position) ∷ []) h (is_worker, tt)) s.taken t a.exporters);
      }
    where
      workers : length s.workers ≡ length (set s.workers t (after_take r.worker r.block))
      workers = sym (length-set_any s.workers t (after_take r.worker r.block))

      is_worker : u < length s.workers
      is_worker = let l : u < length s.queues = get-lt s.queues u (r.block ∷ r.rest) r.front in let p = a.lists.queues in omega arith

      mine : (exports : List Block) → slice_get s.exported u ≡ Some exports → IsTakenFrom taken_state u exports
      mine exports e =
          let c : Some exporter.0 ≡ Some exports = sym exporter.1 ∙ e in
          let d : exporter.0 ≡ exports = cc in
          subst (IsTakenFrom taken_state u) d
          record {
            front = suc source.front;
            within = get-lt exporter.0 source.front r.block first.0;
            labelled = source.labelled;
            queue = get-set_same s.queues u r.rest (r.block ∷ r.rest) r.front ∙ ap Some (sym first.1);
            taken = λ i. (
                let n = counts u i in
                let m : one_if (nat_eq u u && nat_eq r.position i) ≡ one_if (nat_eq source.front i) = ap (λ w. one_if (w && nat_eq r.position i)) (eq-eqb u u refl) ∙ ap (λ w. one_if (nat_eq w i)) at_front in
                let o = source.taken i in
                let h = below-suc source.front i in
                omega arith);
          }

      others : (v : ℕ) (exports : List Block) → slice_get s.exported v ≡ Some exports → v ≢ u → IsTakenFrom taken_state v exports
      others v exports e n =
          let f = a.exports v exports e in
          record {
            front = f.front;
            within = f.within;
            labelled = f.labelled;
            queue = get-set_other s.queues u v r.rest n ∙ f.queue;
            taken = λ i. (
                let c = counts v i in
                let m : one_if (nat_eq u v && nat_eq r.position i) ≡ 0 = ap (λ w. one_if (w && nat_eq r.position i)) (ne_eqb u v (λ q. n (sym q))) in
                let o = f.taken i in
                omega arith);
          }

      rising_here : (es : List (ℕ × ℕ)) → slice_get (updated with_taken s.taken t) t ≡ Some es → (w : ℕ) → IsRising (positions_of w es)
      rising_here es e w =
          let c : Some (with_taken taker.0) ≡ Some es = sym (updated-same with_taken s.taken t taker.0 taker.1) ∙ e in
          let d : with_taken taker.0 ≡ es = cc in
          subst (λ xs. IsRising (positions_of w xs)) d (subst IsRising (sym (positions-push w u r.position taker.0)) (pushed (nat_eq u w) refl))
        where
          pushed : (b : Bool) → nat_eq u w ≡ b → IsRising (positions_of w taker.0 ++ cond b (r.position ∷ []) [])
          pushed false q = subst IsRising (sym (append-nil (positions_of w taker.0))) (a.rising t taker.0 taker.1 w)
          pushed true q =
              let v : u ≡ w = eqb-true u w q in
              rising-push (positions_of w taker.0) r.position (a.rising t taker.0 taker.1 w)
              (subst (λ m. Each (λ x. x < m) (positions_of w taker.0)) (sym at_front) (subst (λ k. Each (λ x. x < source.front) (positions_of k taker.0)) v (taken-below u source.front t s.taken taker.0 taker.1 source.taken)))

step_taken : (setting : Setting) (s s' : System) (event : Event) → Step setting s event s' → AreTakenInOrder s → AreTakenInOrder s'
step_taken setting s s' (Look t) r a = subst AreTakenInOrder (sym r.change) (quiet_taken s _ (length-set_any s.workers t _) refl refl refl a)
step_taken setting s s' (Race t) r a = subst AreTakenInOrder (sym r.change) (quiet_taken s _ (length-set_any s.workers t _) refl refl refl a)
step_taken setting s s' (Scan t) r a = subst AreTakenInOrder (sym r.change) (quiet_taken s _ (length-set_any s.workers t _) refl refl refl a)
step_taken setting s s' (Export t) r a = subst AreTakenInOrder (sym r.change) (exported_taken s s' t r a)
step_taken setting s s' (Take t u) r a = subst AreTakenInOrder (sym r.change) (taken_taken s s' t u r a)
step_taken setting s s' (Own t d) r a = subst AreTakenInOrder (sym r.change) (quiet_taken s _ (length-set_any s.workers t _) refl refl refl a)
step_taken setting s s' (OwnLarge t) r a = subst AreTakenInOrder (sym r.change) (quiet_taken s _ (length-set_any s.workers t _) refl refl refl a)
step_taken setting s s' (Idle t) r a = subst AreTakenInOrder (sym r.change) (quiet_taken s _ refl refl refl refl a)
step_taken setting s s' (Wake t) r a = subst AreTakenInOrder (sym r.change) (quiet_taken s _ refl refl refl refl a)
step_taken setting s s' (End t) r a = subst AreTakenInOrder (sym r.change) (quiet_taken s _ refl refl refl refl a)

run_taken : {setting : Setting} {s s' : System} {events : List Event} → steps.Run setting s events s' → AreTakenInOrder s → AreTakenInOrder s'
run_taken steps.stay a = a
run_taken {setting = setting} {s = s} (steps.go {mid = mid} {event = event} e rest) a = run_taken rest (step_taken setting s mid event e a)

pub taken_in_order : (setting : Setting) (d n : ℕ) (slots free : List ℕ) (s : System) → IsReached setting d n slots free s → AreTakenInOrder s
taken_in_order setting d n slots free s reached = run_taken reached.run (opening_taken d n slots free)
