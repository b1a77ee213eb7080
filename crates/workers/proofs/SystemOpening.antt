-- The opening state, and the whole of a run that ended.
use Rattle.std.proofs.Common.{◌≡◌, ℕ, zero, suc, ◌+◌, ◌<◌, ◌≤◌, true, false, List, [], ◌∷◌, Some, refl, sym, ap, ◌∙◌, length, replicate, arith, true≢false, map, le-ltb}
use Rattle.std.specs.Prelude.{slice_get}
use Rattle.std.specs.Ordering.{nat_cmp}
use Rattle.std.specs.FinMap.{find}
use Rattle.workers.specs.Block.{Block}
use Rattle.workers.specs.Setting.{Setting, is_collected, destination_of}
use Rattle.workers.specs.Worker.{Worker}
use Rattle.workers.specs.WorkerRun.{WorkerRun, stay, no_history, History}
use Rattle.workers.specs.System.{System, Event, opening, opening_worker, opening_workers}
use Rattle.workers.specs.Steps as steps
use Rattle.workers.specs.Total.{total, times, wins_of, one_if}
use Rattle.workers.specs.Joined.{Each, Part, Joined, deliveries}
use Rattle.workers.proofs.Lists.{none-some}
use Rattle.workers.proofs.Starts.{opens, opens_roomy}
use Rattle.workers.proofs.SystemQueues.{Sent, label_all, labelled, from}
use Rattle.workers.proofs.SystemRun.{Held, Begun, run_held, joined}

begin : Worker → Part
begin w = record { start = w; final = w; history = no_history }

abbrev pub open_part : ℕ → ℕ → List ℕ → ℕ → Part
open_part destinations n slots t = record { start = opening_worker destinations n slots t; final = opening_worker destinations n slots t; history = no_history }

abbrev pub open_parts : ℕ → ℕ → List ℕ → ℕ → ℕ → List Part
open_parts destinations n slots t zero = []
open_parts destinations n slots t (suc k) = open_part destinations n slots t ∷ open_parts destinations n slots (t + 1) k

module _ (setting : Setting) (d n : ℕ) (slots free : List ℕ)
    (room : (name : ℕ) → is_collected setting name ≡ true → destination_of setting name < d)
    (distinct : (k : ℕ) → times k free ≤ 1) where
  all_begun : (t k : ℕ) → Each (Begun setting) (open_parts d n slots t k)
  all_begun t zero = tt
  all_begun t (suc k) = (record { opening = opens d n slots t; room = opens_roomy setting d n slots t room }, all_begun (t + 1) k)

  all_run : (t k : ℕ) → Each (λ (p : Part). WorkerRun setting p.start p.final p.history) (open_parts d n slots t k)
  all_run t zero = tt
  all_run t (suc k) = (stay, all_run (t + 1) k)

  all_workers : (t k : ℕ) → map (λ (p : Part). p.final) (open_parts d n slots t k) ≡ opening_workers d n slots t k
  all_workers t zero = refl
  all_workers t (suc k) = ap (λ x. opening_worker d n slots t ∷ x) (all_workers (t + 1) k)

  of_none : (g : Part → ℕ) → ((t : ℕ) → g (open_part d n slots t) ≡ 0) → (t k : ℕ) → total g (open_parts d n slots t k) ≡ 0
  of_none g z t zero = refl
  of_none g z t (suc k) =
      let a : g (open_part d n slots t) ≡ 0 = z t in
      let b : total g (open_parts d n slots (t + 1) k) ≡ 0 = of_none g z (t + 1) k in
      omega arith

  all_blank : (P : Part → Type 0) → ((t : ℕ) → P (open_part d n slots t)) → (t k : ℕ) → Each P (open_parts d n slots t k)
  all_blank P z t zero = tt
  all_blank P z t (suc k) = (z t, all_blank P z (t + 1) k)

  no_labels : (u t k : ℕ) → replicate k [] ≡ label_all u (open_parts d n slots t k)
  no_labels u t zero = refl
  no_labels u t (suc k) = ap (λ x. [] ∷ x) (no_labels (suc u) (t + 1) k)

  no_queue : (t k u : ℕ) (p : Part) → slice_get (open_parts d n slots t k) u ≡ Some p → (slice_get (replicate {A = List Block} k []) u ≡ Some []) × (p.history ≡ no_history)
  no_queue t zero u p e = absurd (none-some e)
  no_queue t (suc k) zero p e = let q : open_part d n slots t ≡ p = cc in (refl, ap (λ (x : Part). x.history) (sym q))
  no_queue t (suc k) (suc u) p e = no_queue (t + 1) k u p e

  as_many : (t k : ℕ) → length (replicate {A = List Block} k []) ≡ length (open_parts d n slots t k)
  as_many t zero = refl
  as_many t (suc k) = ap suc (as_many (t + 1) k)

  never : (k t : ℕ) → slice_get (replicate k false) t ≡ Some true → ⊥
  never zero t e = none-some e
  never (suc k) zero e = (let q : false ≡ true = cc in true≢false (sym q))
  never (suc k) (suc t) e = never k t e

  pub opening_held : Held setting (opening d n slots free) (open_parts d n slots 0 n)
  opening_held =
      record {
        begun = all_begun 0 n;
        agree = record {
          workers = all_workers 0 n;
          runs = all_run 0 n;
          known = all_blank (λ (p : Part). Each (λ (q : ℕ × ℕ). find nat_cmp q.0 [] ≡ Some q.1) p.history.known) (λ t. tt) 0 n;
          won = λ name. of_none (λ (p : Part). wins_of name p.final.won) (λ t. refl) 0 n;
          drawn = λ k. (let z = of_none (λ (p : Part). times k p.history.drawn) (λ t. refl) 0 n in let f = distinct k in omega arith);
        };
        queues = record {
          exported = no_labels 0 0 n;
          queues = λ u p g. (
              let q = no_queue 0 n u p g in
              record {
                front = 0;
                within = omega arith;
                queue = q.0 ∙ ap (λ (h : History). Some (from 0 (labelled u 0 h.exported))) (sym q.1);
                taken = λ i. of_none (λ (r : Part). deliveries u i r.history.taken) (λ t. refl) 0 n ∙ sym (ap one_if (le-ltb i 0 (omega arith)));
              });
          sent = all_blank (λ (p : Part). Each (Sent (replicate n [])) p.history.taken) (λ t. tt) 0 n;
        };
        lanes = as_many 0 n;
        idle = λ t p g i. absurd (never n t i);
        ended = λ t e. absurd (never n t e);
      }

  -- a run from the opening state to where every worker ended joins its parts
  pub ended_joined : (s : System) (events : List Event) → steps.Run setting (opening d n slots free) events s → ((t : ℕ) → t < n → slice_get s.ended t ≡ Some true)
      → (parts : List Part) × (Joined setting (λ name. find nat_cmp name s.forwarded) parts × (map (λ (p : Part). p.start) parts ≡ map (λ (p : Part). p.start) (open_parts d n slots 0 n)))
  ended_joined s events run ended =
      let r = run_held setting run (open_parts d n slots 0 n) opening_held in
      (r.0, (joined setting s r.0 r.1.0 (λ t p g. ended t (within r.0 r.1.1.0 t p g)), r.1.1.0))
    where
      counted : (t k : ℕ) → length (open_parts d n slots t k) ≡ k
      counted t zero = refl
      counted t (suc k) = ap suc (counted (t + 1) k)

      length-starts : (ps : List Part) → length (map (λ (p : Part). p.start) ps) ≡ length ps
      length-starts [] = refl
      length-starts (p ∷ ps) = ap suc (length-starts ps)

      place : (ps : List Part) (t : ℕ) (p : Part) → slice_get ps t ≡ Some p → t < length ps
      place [] t p e = absurd (none-some e)
      place (q ∷ ps) zero p e = omega arith
      place (q ∷ ps) (suc t) p e = let h : t < length ps = place ps t p e in omega arith

      within : (ps : List Part) → map (λ (p : Part). p.start) ps ≡ map (λ (p : Part). p.start) (open_parts d n slots 0 n) → (t : ℕ) (p : Part) → slice_get ps t ≡ Some p → t < n
      within ps e t p g =
          let a = place ps t p g in
          let b : length ps ≡ n = sym (length-starts ps) ∙ ap length e ∙ length-starts (open_parts d n slots 0 n) ∙ counted 0 n in
          omega arith
