-- What a state of a run brings: its parts, what they took and drew, and where all ended or one was refused a block.
use Rattle.std.proofs.Common.{◌≡◌, ℕ, zero, suc, ◌+◌, ◌<◌, ◌≤◌, List, [], ◌∷◌, Option, Some, None, refl, sym, ap, subst, ◌∙◌, arith, map, nat_eq, length}
use Rattle.std.proofs.lemmas.List.{length-map}
use Rattle.std.specs.Prelude.{slice_get}
use Rattle.std.specs.Ordering.{nat_cmp}
use Rattle.std.specs.FinMap.{find}
use Rattle.model.specs.Graph.{Graph}
use Rattle.model.specs.Destination.{Shape}
use Rattle.model.specs.LiveCount.{LiveWords}
use Rattle.model.specs.SpaceBound.{space_bound}
use Rattle.workers.specs.Setting.{Setting, setting_of}
use Rattle.workers.specs.Worker.{Worker}
use Rattle.workers.specs.WorkerSteps.{cell_wanted, draw_wanted}
use Rattle.workers.specs.WorkerRun.{WorkerRun}
use Rattle.workers.specs.System.{System, Event, opening_worker, opening_workers, cell_of}
use Rattle.workers.specs.Steps.{Step}
use Rattle.workers.specs.Steps as steps
use Rattle.workers.specs.Total.{total, one_if, times, ones}
use Rattle.workers.specs.Joined.{Each, Part}
use Rattle.model.specs.Collected.{IsLiveOrOlder}
use Rattle.workers.specs.Kept.{CopiesLive}
use Rattle.workers.specs.Lawful.{AllEnded, IsRefused}
use Rattle.workers.specs.Refused.{HasBegun, Refused}
use Rattle.workers.specs.Finish.{IsReached}
use Rattle.workers.specs.Alone.{HasStarts, AreEmpty, RunBrings}
use Rattle.workers.proofs.Lists.{Each-map, Each-zip, get-lt}
use Rattle.workers.proofs.Starts.{opens, starts_dealt, opening_each, length-replicate-none}
use Rattle.workers.proofs.OwnLive.{OwnLive}
use Rattle.workers.proofs.Kept.{keep, opening_live}
use Rattle.workers.proofs.SpaceBound.{refused-below}
use Rattle.workers.proofs.SystemParts.{is_there}
use Rattle.workers.proofs.SystemRun.{Held, Begun, run_held, joined}
use Rattle.workers.proofs.SystemOpening.{open_parts, opening_held}
use Rattle.workers.proofs.SystemLive.{run_all_live, opening_all_live, taken_live}

total-map : {A B : Type 0} (h : A → B) (f : B → ℕ) (xs : List A) → total f (map h xs) ≡ total (λ x. f (h x)) xs
total-map h f [] = refl
total-map h f (x ∷ xs) = ap (λ n. f (h x) + n) (total-map h f xs)

each-map : {A B : Type 0} (h : A → B) (P : B → Type 0) (xs : List A) → Each P (map h xs) → Each (λ x. P (h x)) xs
each-map h P [] k = tt
each-map h P (x ∷ xs) k = (k.0, each-map h P xs k.1)

module _ (d n : ℕ) (slots : List ℕ) where
  started : (t k : ℕ) → map (λ (p : Part). p.start) (open_parts d n slots t k) ≡ opening_workers d n slots t k
  started t zero = refl
  started t (suc k) = ap (λ x. opening_worker d n slots t ∷ x) (started (t + 1) k)

  nothing_drawn : (f : ℕ → ℕ) (t k : ℕ) → total (λ (p : Part). total f p.history.drawn) (open_parts d n slots t k) ≡ 0
  nothing_drawn f t zero = refl
  nothing_drawn f t (suc k) = let h : total (λ (p : Part). total f p.history.drawn) (open_parts d n slots (t + 1) k) ≡ 0 = nothing_drawn f (t + 1) k in omega arith

  destinations_each : (t k : ℕ) → Each (λ (w : Worker). length w.allocation ≡ d) (opening_workers d n slots t k)
  destinations_each t zero = tt
  destinations_each t (suc k) = (length-replicate-none d, destinations_each (t + 1) k)

  as_many : (t k : ℕ) → length (opening_workers d n slots t k) ≡ k
  as_many t zero = refl
  as_many t (suc k) = ap suc (as_many (t + 1) k)

total-ones : (xs : List ℕ) → total (λ _. 1) xs ≡ length xs
total-ones [] = refl
total-ones (x ∷ xs) = let h : total (λ _. 1) xs ≡ length xs = total-ones xs in omega arith

drawn_lengths : (ps : List Part) → total (λ (p : Part). length p.history.drawn) ps ≡ total (λ (p : Part). total (λ _. 1) p.history.drawn) ps
drawn_lengths [] = refl
drawn_lengths (p ∷ ps) =
    let a : total (λ _. 1) p.history.drawn ≡ length p.history.drawn = total-ones p.history.drawn in
    let b : total (λ (q : Part). length q.history.drawn) ps ≡ total (λ (q : Part). total (λ _. 1) q.history.drawn) ps = drawn_lengths ps in
    omega arith

ones-le : (o : Option ℕ) → ones o ≤ 1
ones-le None = omega arith
ones-le (Some m) = omega arith

-- the parts of a state, what they began with, and that the free blocks are the drawn and those that are left
pub record Parts (setting : Setting) (d n : ℕ) (slots free : List ℕ) (s : System) : Type 0 where
  pub parts : List Part
  pub held : Held setting s parts
  pub starts : map (λ (p : Part). p.start) parts ≡ opening_workers d n slots 0 n
  pub drawn : (f : ℕ → ℕ) → total (λ (p : Part). total f p.history.drawn) parts + total f s.free ≡ total f free

pub parts_of : (setting : Setting) (d n : ℕ) (slots free : List ℕ) (s : System) → IsReached setting d n slots free s → Parts setting d n slots free s
parts_of setting d n slots free s r =
    let h = run_held setting r.run (open_parts d n slots 0 n) (opening_held setting d n slots free r.room r.distinct) in
    record {
      parts = h.0;
      held = h.1.0;
      starts = h.1.1.0 ∙ started d n slots 0 n;
      drawn = λ f. (let a = h.1.1.1 f in let b = nothing_drawn d n slots f 0 n in omega arith);
    }

pub step_parts : (setting : Setting) (d n : ℕ) (slots free : List ℕ) (s s' : System) (event : Event) → Step setting s event s' → Parts setting d n slots free s → Parts setting d n slots free s'
step_parts setting d n slots free s s' event e p =
    let h = run_held setting (steps.go {event = event} e steps.stay) p.parts p.held in
    record { parts = h.0; held = h.1.0; starts = h.1.1.0 ∙ p.starts; drawn = λ f. h.1.1.1 f ∙ p.drawn f }

module _ (graph : Graph) (g : ℕ) (shape : Shape) (block_words d n : ℕ) (slots free : List ℕ) (s : System) (r : IsReached (setting_of graph g shape block_words n) d n slots free s) (only : Each (IsLiveOrOlder graph g) slots) where
  abbrev setting : Setting
  setting = setting_of graph g shape block_words n

  abbrev L : ℕ → Type 0
  L = IsLiveOrOlder graph g

  brought_parts : Parts setting d n slots free s
  brought_parts = parts_of setting d n slots free s r

  abbrev parts : List Part
  parts = brought_parts.parts

  live_starts : Each (λ (p : Part). Each L p.start.starts) parts
  live_starts = each-map (λ (p : Part). p.start) (λ (w : Worker). Each L w.starts) parts (subst (Each (λ (w : Worker). Each L w.starts)) (sym brought_parts.starts) (opening_each setting L d n slots only 0 n))

  live_workers : (t k : ℕ) → Each (λ (w : Worker). Each L w.starts) (opening_workers d n slots t k) → Each (OwnLive L) (opening_workers d n slots t k)
  live_workers t zero h = tt
  live_workers t (suc k) h = (opening_live graph g shape block_words n (opening_worker d n slots t) (opens d n slots t) h.0, live_workers (t + 1) k h.1)

  live_taken : Each (λ (p : Part). Each (CopiesLive graph g) p.history.taken) parts
  live_taken = taken_live L s parts brought_parts.held.queues (run_all_live L setting (keep graph g shape block_words n) r.run (opening_all_live L d n slots free (live_workers 0 n (opening_each setting L d n slots only 0 n))))

  drawn_free : (number : ℕ) → 0 < total (λ (p : Part). times number p.history.drawn) parts → 0 < times number free
  drawn_free number l = let e = brought_parts.drawn (λ x. one_if (nat_eq x number)) in omega arith

  as_many_parts : length parts ≡ n
  as_many_parts = sym (length-map parts (λ (p : Part). p.start)) ∙ ap length brought_parts.starts ∙ as_many d n slots 0 n

  -- where all ended
  pub ended_brings : AllEnded s → block_words ≤ 65536 → HasStarts graph g slots → AreEmpty graph free → RunBrings graph g shape block_words d n slots free s
  ended_brings ended small all empty =
      record {
        parts = parts;
        brought = record {
          joined = joined setting s parts brought_parts.held (λ t p e. ended t (within t p e));
          starts = λ target i. subst (λ m. 0 < m) (sym (dealt target)) (all target i);
          only_starts = live_starts;
          taken_live = live_taken;
          small_blocks = small;
          fresh = λ number offset l o. empty number offset (drawn_free number l) o;
        };
        starts = brought_parts.starts;
        workers = brought_parts.held.agree.workers;
        drawn = drawn_free;
        not_drawn = λ number. brought_parts.drawn (λ x. one_if (nat_eq x number));
      }
    where
      within : (t : ℕ) (p : Part) → slice_get parts t ≡ Some p → t < length s.workers
      within t p e =
          let a : t < length parts = get-lt parts t p e in
          let b : length s.workers ≡ length parts = ap length (sym brought_parts.held.agree.workers) ∙ length-map parts (λ (p : Part). p.final) in
          omega arith

      dealt : (target : ℕ) → total (λ (p : Part). times target p.start.starts) parts ≡ times target slots
      dealt target =
          sym (total-map (λ (p : Part). p.start) (λ (w : Worker). times target w.starts) parts) ∙ ap (total (λ (w : Worker). times target w.starts)) brought_parts.starts ∙ starts_dealt target d n slots r.some

  -- where a worker was refused a block
  pub refused_below : (event : Event) → IsRefused setting s event → (words : ℕ) → LiveWords graph g block_words words → length free < space_bound words block_words n d
  refused_below event x words l = subst (λ m. length free < space_bound words block_words m d) as_many_parts (refused-below graph g shape block_words n d (length free) parts all words l)
    where
      all : Refused graph g shape block_words n d (length free) parts
      all =
          let y = is_there setting s parts x.t x.worker brought_parts.held.agree x.at.is in
          let b = brought_parts.drawn (λ _. 1) in
          let c : total (λ _. 1) s.free ≡ 0 = ap (total (λ _. 1)) x.none_free in
          let e : total (λ _. 1) free ≡ length free = total-ones free in
          record {
            runs = Each-map (λ (p : Part). Begun setting p × WorkerRun setting p.start p.final p.history) (HasBegun setting) (λ p h. record { opening = h.0.opening; room = h.0.room; run = h.1 }) parts
                (Each-zip (Begun setting) (λ (p : Part). WorkerRun setting p.start p.final p.history) parts brought_parts.held.begun brought_parts.held.agree.runs);
            destinations_are = each-map (λ (p : Part). p.start) (λ (w : Worker). length w.allocation ≡ d) parts (subst (Each (λ (w : Worker). length w.allocation ≡ d)) (sym brought_parts.starts) (destinations_each d n slots 0 n));
            won_once = λ name. subst (λ m. m ≤ 1) (sym (brought_parts.held.agree.won name)) (ones-le (find nat_cmp name s.forwarded));
            only_starts = live_starts;
            taken_live = live_taken;
            all_drawn = drawn_lengths parts ∙ (omega arith);
            t = x.t;
            part = y.0;
            there = y.1.0;
            cell = cell_of s (cell_wanted setting x.worker);
            wanted = ap (λ w. draw_wanted setting w (cell_of s (cell_wanted setting x.worker))) y.1.1 ∙ x.wanted;
          }
