-- Stepping by the next event ends, and what is left is bounded from the start.
use Rattle.std.proofs.Common.{◌≡◌, ℕ, zero, suc, ◌+◌, ◌*◌, ◌<◌, ◌≤◌, Bool, true, false, not, List, [], ◌∷◌, Option, Some, None, refl, ap, subst, ◌∙◌, inl, inr, ⊎_elim, length, arith, replicate}
use Rattle.std.specs.Prelude.{slice_get}
use Rattle.std.specs.Option.{option_map}
use Rattle.workers.specs.Block.{Block}
use Rattle.workers.specs.Setting.{Setting, is_collected, destination_of}
use Rattle.workers.specs.Worker.{Worker, Proposal, Hand, Nothing, Open, Holding, HoldingLarge}
use Rattle.workers.specs.WorkerSteps.{current_slot}
use Rattle.workers.specs.System.{System, Event, Look, Race, Scan, Export, Take, Own, OwnLarge, Idle, Wake, End, opening, opening_workers}
use Rattle.workers.specs.Steps.{Step}
use Rattle.workers.specs.Steps as steps
use Rattle.workers.specs.Total.{total, one_if, times}
use Rattle.workers.specs.Joined.{Part}
use Rattle.workers.specs.Lawful.{IsRefused, race_or, look_or, scan_or, export_or, own_or, large_or, take_or, lowest_open, next_of_worker, next_of_one, lowest_unset, queue_at, next_from, next_lawful, next_alone, IsNext}
use Rattle.workers.specs.Measure.{weight, open_weight, worker_left, queue_weight, unwon_weight, work_left, measure, measure_bound, Covers, IsWake, wakes}
use Rattle.workers.specs.Finish.{Stepped, stay, go, Finishes}
use Rattle.workers.proofs.Lists.{none-some, length-set_any}
use Rattle.workers.proofs.Starts.{lengths_dealt}
use Rattle.workers.proofs.SystemRun.{Held, run_held}
use Rattle.workers.proofs.SystemOpening.{open_parts, opening_held}
use Rattle.workers.proofs.Progress.{Shaped, next_is_lawful, next_alone_is_lawful}
use Rattle.workers.proofs.Ended.{step_shaped, run_shaped, opening_shaped, lawful_comes}
use Rattle.workers.proofs.SystemFalls.{step_less, step_work, step_count}

-- no next event is a wake
abbrev NoWake : Event → Type 0
NoWake event = IsWake event → ⊥

module _ (t : ℕ) (rest : Event) (n : NoWake rest) where
  race-wake : (o : Option Proposal) → NoWake (race_or t o rest)
  race-wake None = n
  race-wake (Some p) = λ e. e

  look-wake : (o : Option (Option ℕ)) → NoWake (look_or t o rest)
  look-wake None = n
  look-wake (Some p) = λ e. e

  scan-wake : (o : Hand) → NoWake (scan_or t o rest)
  scan-wake Nothing = n
  scan-wake (Open d) = λ e. e
  scan-wake (Holding b) = λ e. e
  scan-wake (HoldingLarge m) = λ e. e

  export-wake : (o : List Block) → NoWake (export_or t o rest)
  export-wake [] = n
  export-wake (b ∷ bs) = λ e. e

  own-wake : (o : Option ℕ) → NoWake (own_or t o rest)
  own-wake None = n
  own-wake (Some d) = λ e. e

  large-wake : (o : List ℕ) → NoWake (large_or t o rest)
  large-wake [] = n
  large-wake (b ∷ bs) = λ e. e

  take-wake : (o : List Block) → NoWake (take_or t o rest)
  take-wake [] = n
  take-wake (b ∷ bs) = λ e. e

module _ (setting : Setting) where
  worker-wake : (t : ℕ) (w : Worker) (q : List Block) → NoWake (next_of_worker setting t w q)
  worker-wake t w q = race-wake t _ (look-wake t _ (scan-wake t _ (export-wake t _ (own-wake t _ (large-wake t _ (take-wake t (Idle t) (λ e. e) q) w.large) (lowest_open 0 w.allocation)) w.aside) w.hand) (current_slot setting w)) w.proposal

  one-wake : (t : ℕ) (w : Worker) (q : List Block) → NoWake (next_of_one setting t w q)
  one-wake t w q = race-wake t _ (look-wake t _ (scan-wake t _ (export-wake t _ (take-wake t _ (own-wake t _ (large-wake t (Idle t) (λ e. e) w.large) (lowest_open 0 w.allocation)) q) w.aside) w.hand) (current_slot setting w)) w.proposal

  from-wake : (s : System) (next : ℕ → Worker → List Block → Event) → ((t : ℕ) (w : Worker) (q : List Block) → NoWake (next t w q)) → (o : Option ℕ) (event : Event) → next_from s next o ≡ Some event → NoWake event
  from-wake s next h (Some t) event e = on (slice_get s.workers t) e
    where
      on : (x : Option Worker) → option_map (λ w. next t w (queue_at s t)) x ≡ Some event → NoWake event
      on None e = absurd (none-some e)
      on (Some w) e = let q : next t w (queue_at s t) ≡ event = cc in subst NoWake q (h t w (queue_at s t))
  from-wake s next h None event e = on (lowest_unset 0 s.ended) e
    where
      on : (x : Option ℕ) → option_map End x ≡ Some event → NoWake event
      on None e = absurd (none-some e)
      on (Some t) e = let q : End t ≡ event = cc in subst NoWake q (λ x. x)

  -- what a next event must be
  pub record IsChoice (next : System → Option Event) : Type 0 where
    pub lawful : (s : System) → Shaped s → IsNext setting s (next s)
    pub no_wake : (s : System) (event : Event) → next s ≡ Some event → NoWake event

  pub lawful_choice : IsChoice (next_lawful setting)
  lawful_choice = record { lawful = next_is_lawful setting; no_wake = λ s event e. from-wake s (next_of_worker setting) worker-wake (lowest_unset 0 s.idle) event e }

  pub alone_choice : IsChoice (next_alone setting)
  alone_choice = record { lawful = next_alone_is_lawful setting; no_wake = λ s event e. from-wake s (next_of_one setting) one-wake (lowest_unset 0 s.idle) event e }

  module _ (names : List ℕ) (cover : Covers setting names) (next : System → Option Event) (choice : IsChoice next) where
    -- however far it is stepped, no more than the measure
    pub stepped_few : {s last : System} {count : ℕ} → Stepped setting next s count last → (parts : List Part) → Held setting s parts → count + measure setting names last ≤ measure setting names s
    stepped_few stay parts k = omega arith
    stepped_few {s = s} {last = last} (go {mid = mid} {event = event} {count = count} e r rest) parts k =
        let l = step_less setting names cover s mid parts k event r (choice.no_wake s event e) in
        let a = l.all in
        let n = run_held setting (steps.go {event = event} r steps.stay) parts k in
        let b : count + measure setting names last ≤ measure setting names mid = stepped_few rest n.0 n.1.0 in
        omega arith

    abbrev Goal : System → Type 0
    Goal = Finishes setting next names

    stuck : (s : System) (event : Event) → next s ≡ Some event → IsRefused setting s event → Goal s
    stuck s event e h = record { last = s; count = 0; run = stay; few = omega arith; ends = inr (record { event = event; is_next = e; refused = h }) }

    grown : (s mid : System) (parts : List Part) (k : Held setting s parts) (event : Event) → next s ≡ Some event → Step setting s event mid → Goal mid → Goal s
    grown s mid parts k event e r x =
        let a = (step_less setting names cover s mid parts k event r (choice.no_wake s event e)).all in
        let y = x.few in
        record { last = x.last; count = x.count + 1; run = go e r x.run; few = omega arith; ends = x.ends }

    on_next : (s : System) (parts : List Part) → Held setting s parts → Shaped s
        → ((event : Event) → next s ≡ Some event → (mid : System) → Step setting s event mid → Goal mid) → (o : Option Event) → next s ≡ o → IsNext setting s o → Goal s
    on_next s parts k shaped more None e h = record { last = s; count = 0; run = stay; few = omega arith; ends = inl h }
    on_next s parts k shaped more (Some event) e h =
        ⊎_elim
        (λ (x : (mid : System) × Step setting s event mid). grown s x.0 parts k event e x.1 (more event e x.0 x.1))
        (λ (x : IsRefused setting s event). stuck s event e x)
        (lawful_comes setting s parts shaped k event h)

    with_fuel : (fuel : ℕ) (s : System) (parts : List Part) → Held setting s parts → Shaped s → measure setting names s ≤ fuel → Goal s
    with_fuel zero s parts k shaped l =
        on_next s parts k shaped (λ event e mid r. (let a = (step_less setting names cover s mid parts k event r (choice.no_wake s event e)).all in absurd (omega arith))) (next s) refl (choice.lawful s shaped)
    with_fuel (suc fuel) s parts k shaped l =
        on_next s parts k shaped
        (λ event e mid r.
        let a = (step_less setting names cover s mid parts k event r (choice.no_wake s event e)).all in
        let n = run_held setting (steps.go {event = event} r steps.stay) parts k in
        with_fuel fuel mid n.0 n.1.0 (step_shaped setting s mid event shaped r) (omega arith))
        (next s) refl (choice.lawful s shaped)

    -- from each state of a run it comes to its end
    pub finishes : (s : System) (parts : List Part) → Held setting s parts → Shaped s → Finishes setting next names s
    finishes s parts k shaped = with_fuel (measure setting names s) s parts k shaped (omega arith)

  -- the work of a run never grows
  module _ (names : List ℕ) (cover : Covers setting names) where
    run_work : {s s' : System} {events : List Event} → steps.Run setting s events s' → (parts : List Part) → Held setting s parts → work_left setting names s' ≤ work_left setting names s
    run_work steps.stay parts k = omega arith
    run_work {s = s} {s' = s'} (steps.go {mid = m} {event = event} r rest) parts k =
        let a = step_work setting names cover s m parts k event r in
        let n = run_held setting (steps.go {event = event} r steps.stay) parts k in
        let b : work_left setting names s' ≤ work_left setting names m = run_work rest n.0 n.1.0 in
        omega arith

    -- each event of a run but its wakes takes one off
    pub run_count : {s s' : System} {events : List Event} → steps.Run setting s events s' → (parts : List Part) → Held setting s parts → length events + measure setting names s' ≤ measure setting names s + 2 * wakes events
    run_count steps.stay parts k = omega arith
    run_count {s = s} {s' = s'} (steps.go {mid = m} {event = event} {events = events} r rest) parts k =
        let a = step_count setting names cover s m parts k event r in
        let n = run_held setting (steps.go {event = event} r steps.stay) parts k in
        let b : length events + measure setting names s' ≤ measure setting names m + 2 * wakes events = run_count rest n.0 n.1.0 in
        omega arith

  step_length : (s s' : System) (event : Event) → Step setting s event s' → length s'.workers ≡ length s.workers
  step_length s s' (Look t) r = ap (λ (z : System). length z.workers) r.change ∙ length-set_any s.workers t _
  step_length s s' (Race t) r = ap (λ (z : System). length z.workers) r.change ∙ length-set_any s.workers t _
  step_length s s' (Scan t) r = ap (λ (z : System). length z.workers) r.change ∙ length-set_any s.workers t _
  step_length s s' (Export t) r = ap (λ (z : System). length z.workers) r.change ∙ length-set_any s.workers t _
  step_length s s' (Take t u) r = ap (λ (z : System). length z.workers) r.change ∙ length-set_any s.workers t _
  step_length s s' (Own t d) r = ap (λ (z : System). length z.workers) r.change ∙ length-set_any s.workers t _
  step_length s s' (OwnLarge t) r = ap (λ (z : System). length z.workers) r.change ∙ length-set_any s.workers t _
  step_length s s' (Idle t) r = ap (λ (z : System). length z.workers) r.change
  step_length s s' (Wake t) r = ap (λ (z : System). length z.workers) r.change
  step_length s s' (End t) r = ap (λ (z : System). length z.workers) r.change

  run_length : {s s' : System} {events : List Event} → steps.Run setting s events s' → length s'.workers ≡ length s.workers
  run_length steps.stay = refl
  run_length {s = s} (steps.go {mid = m} {event = event} r rest) = run_length rest ∙ step_length s m event r

-- the opening state's measure
unset-le : (bs : List Bool) → total (λ b. one_if (not b)) bs ≤ length bs
unset-le [] = omega arith
unset-le (true ∷ bs) = let h = unset-le bs in omega arith
unset-le (false ∷ bs) = let h = unset-le bs in omega arith

no_open : (setting : Setting) (d : ℕ) → total (open_weight setting) (replicate d None) ≡ 0
no_open setting zero = refl
no_open setting (suc d) = let h : total (open_weight setting) (replicate d None) ≡ 0 = no_open setting d in omega arith

no_queued : (setting : Setting) (n : ℕ) → total (queue_weight setting) (replicate n []) ≡ 0
no_queued setting zero = refl
no_queued setting (suc n) = let h : total (queue_weight setting) (replicate n []) ≡ 0 = no_queued setting n in omega arith

all_unwon : (setting : Setting) (names : List ℕ) → unwon_weight setting [] names ≡ total (weight setting) names
all_unwon setting [] = refl
all_unwon setting (n ∷ ns) = ap (λ m. weight setting n + m) (all_unwon setting ns)

workers_left : (setting : Setting) (d n : ℕ) (slots : List ℕ) (t k : ℕ) → total (worker_left setting) (opening_workers d n slots t k) ≡ 4 * total (λ (w : Worker). length w.starts) (opening_workers d n slots t k) + 4 * k
workers_left setting d n slots t zero = refl
workers_left setting d n slots t (suc k) =
    let a : total (worker_left setting) (opening_workers d n slots (t + 1) k) ≡ 4 * total (λ (w : Worker). length w.starts) (opening_workers d n slots (t + 1) k) + 4 * k = workers_left setting d n slots (t + 1) k in
    let z = no_open setting d in
    omega arith

opening_workers_length : (d n : ℕ) (slots : List ℕ) (t k : ℕ) → length (opening_workers d n slots t k) ≡ k
opening_workers_length d n slots t zero = refl
opening_workers_length d n slots t (suc k) = ap suc (opening_workers_length d n slots (t + 1) k)

module _ (setting : Setting) (d n : ℕ) (slots free names : List ℕ) (some : 0 < n) (cover : Covers setting names)
    (room : (name : ℕ) → is_collected setting name ≡ true → destination_of setting name < d)
    (distinct : (k : ℕ) → times k free ≤ 1) where
  opening_work : work_left setting names (opening d n slots free) ≡ 4 * n + 4 * length slots + total (weight setting) names
  opening_work =
      let a = workers_left setting d n slots 0 n in
      let b = lengths_dealt d n slots some in
      let c = no_queued setting n in
      let e = all_unwon setting names in
      omega arith

  -- in each state of a run no more is left than this, whatever woke
  pub run_bounded : (s : System) (events : List Event) → steps.Run setting (opening d n slots free) events s → measure setting names s ≤ measure_bound setting n slots names
  run_bounded s events run =
      let k = opening_held setting d n slots free room distinct in
      let a = run_work setting names cover run (open_parts d n slots 0 n) k in
      let b = opening_work in
      let f = run_shaped setting run (opening_shaped d n slots free) in
      let l = run_length setting run in
      let m = opening_workers_length d n slots 0 n in
      let i = unset-le s.idle in
      let e = unset-le s.ended in
      let i2 = f.idle in
      let e2 = f.ended in
      omega arith

  -- a run has no more events than this, and two for each wake
  pub run_short : (s : System) (events : List Event) → steps.Run setting (opening d n slots free) events s → length events + measure setting names s ≤ measure_bound setting n slots names + 2 * wakes events
  run_short s events run =
      let k = opening_held setting d n slots free room distinct in
      let a = run_count setting names cover run (open_parts d n slots 0 n) k in
      let b = run_bounded (opening d n slots free) [] steps.stay in
      omega arith

  -- from each state of a run the next events lead to its end
  pub run_finishes : (next : System → Option Event) → IsChoice setting next → (s : System) (events : List Event) → steps.Run setting (opening d n slots free) events s → Finishes setting next names s
  run_finishes next choice s events run =
      let r = run_held setting run (open_parts d n slots 0 n) (opening_held setting d n slots free room distinct) in
      finishes setting names cover next choice s r.0 r.1.0 (run_shaped setting run (opening_shaped d n slots free))
