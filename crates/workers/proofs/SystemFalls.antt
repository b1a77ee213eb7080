-- Each event of a run but a wake makes less of what is left to do.
use Rattle.std.proofs.Common.{◌≡◌, ℕ, ◌+◌, ◌*◌, ◌<◌, ◌≤◌, Bool, true, false, not, List, [], ◌∷◌, ◌++◌, Option, Some, None, refl, sym, ap, subst, ◌∙◌, set, length, arith, is_some, cond, nat_eq, eqb-true}
use Rattle.std.specs.Prelude.{slice_get}
use Rattle.std.specs.Ordering.{nat_cmp}
use Rattle.std.specs.FinMap.{find}
use Rattle.workers.specs.Block.{Block, updated}
use Rattle.workers.specs.Setting.{Setting, is_collected, destination_of, old_pointers}
use Rattle.workers.specs.Worker.{Worker, Proposal, Copied, Claimed, current_in}
use Rattle.workers.specs.WorkerSteps.{current_slot, collected_target, cell_wanted, after_look, after_race, after_scan, after_aside, after_take, after_own, after_own_large}
use Rattle.workers.specs.WorkerRun.{WorkerRun, History, proposed_name, proposed_place}
use Rattle.workers.specs.System.{System, Event, Look, Race, Scan, Export, Take, Own, OwnLarge, Idle, Wake, End, cell_of}
use Rattle.workers.specs.Steps.{Step}
use Rattle.workers.specs.Steps as steps
use Rattle.workers.specs.Total.{total, one_if, times}
use Rattle.workers.specs.Joined.{Part, OnSome, Roomy, IsOpening}
use Rattle.workers.specs.Measure.{weight, unscanned_weight, worker_weight, worker_left, queue_weight, unwon_weight, work_left, measure, Covers, IsWake, one_wake}
use Rattle.workers.proofs.Lists.{Each-at, none-some}
use Rattle.workers.proofs.Totals.{total-push}
use Rattle.workers.proofs.Moves.{Fit, moves_fit, destinations}
use Rattle.workers.proofs.Acts.{run_moves, ProposalFit}
use Rattle.workers.proofs.OnePart.{opening-fit}
use Rattle.workers.proofs.SystemParts.{is_there, total-set, find-push, find-new}
use Rattle.workers.proofs.SystemQueues.{get-set_same}
use Rattle.workers.proofs.SystemRun.{Held, Begun, run_held}
use Rattle.workers.proofs.WorkerFalls.{total-updated_le, slot_there, look_falls, brings, race_falls, FieldsIn, scan_falls, fields_bound, own_falls, own_large_falls, take_falls, aside_falls}
use Rattle.workers.proofs.FieldsIn.{moves_fields}

module _ (setting : Setting) where
  -- a worker of a run
  pub record Sound (w : Worker) : Type 0 where
    pub fit : Fit w
    pub proposal : ProposalFit setting w w.proposal
    pub room : Roomy setting w
    pub fields : FieldsIn setting w

  -- also of a thread's, which has no system
  pub run_sound : (start w : Worker) (h : History) → IsOpening start → Roomy setting start → WorkerRun setting start w h → Sound w
  run_sound start w h o room run =
      let f = opening-fit start o in
      let m = run_moves setting run f room o.no_proposal in
      let none : FieldsIn setting start = subst (λ hand. OnSome (λ (c : ℕ × ℕ). start.fields ≤ length (old_pointers setting c.0)) (current_in start hand)) (sym o.no_hand) tt in
      record {
        fit = moves_fit setting m.moves f;
        proposal = m.proposal;
        room = λ name y. subst (λ n. destination_of setting name < n) (sym (destinations setting m.moves)) (room name y);
        fields = moves_fields setting m.moves f none;
      }

  pub sound : (s : System) (parts : List Part) → Held setting s parts → (t : ℕ) (w : Worker) → slice_get s.workers t ≡ Some w → Sound w
  sound s parts k t w e =
      let x = is_there setting s parts t w k.agree e in
      let b = Each-at (Begun setting) parts t x.0 x.1.0 k.begun in
      let run = Each-at (λ (p : Part). WorkerRun setting p.start p.final p.history) parts t x.0 x.1.0 k.agree.runs in
      subst Sound x.1.1 (run_sound x.0.start x.0.final x.0.history b.opening b.room run)

  -- what is proposed is collected
  target_of : (o : Option (Option ℕ)) (name : ℕ) → collected_target setting o ≡ Some name → (o ≡ Some (Some name)) × (is_collected setting name ≡ true)
  target_of None name e = absurd (none-some e)
  target_of (Some None) name e = absurd (none-some e)
  target_of (Some (Some n)) name e = go (is_collected setting n) refl e
    where
      go : (b : Bool) → is_collected setting n ≡ b → cond b (Some n) None ≡ Some name → (Some (Some n) ≡ Some (Some name)) × (is_collected setting name ≡ true)
      go true p q = let r : n ≡ name = cc in (ap (λ x. Some (Some x)) r, ap (is_collected setting) (sym r) ∙ p)
      go false p q = absurd (none-some q)

  proposed : (w : Worker) (p : Proposal) → ProposalFit setting w (Some p) → cell_wanted setting w ≡ Some (proposed_name p)
  proposed w (Copied c d) f = f.wanted
  proposed w (Claimed n) f = f.0

  -- what is won is no longer to be won
  module _ (names : List ℕ) where
    abbrev left_at : List (ℕ × ℕ) → ℕ → ℕ
    left_at forwarded n = cond (is_some (find nat_cmp n forwarded)) 0 (weight setting n)

    push_le : (es : List (ℕ × ℕ)) (k v n : ℕ) → left_at (es ++ (k, v) ∷ []) n ≤ left_at es n
    push_le es k v n = go (find nat_cmp n es) refl
      where
        go : (o : Option ℕ) → find nat_cmp n es ≡ o → left_at (es ++ (k, v) ∷ []) n ≤ cond (is_some o) 0 (weight setting n)
        go None e = le (is_some (find nat_cmp n (es ++ (k, v) ∷ [])))
          where
            le : (b : Bool) → cond b 0 (weight setting n) ≤ weight setting n
            le true = omega arith
            le false = omega arith
        go (Some place) e = let q : left_at (es ++ (k, v) ∷ []) n ≡ 0 = ap (λ o. cond (is_some o) 0 (weight setting n)) (find-push es k v n place e) in omega arith

    all_push_le : (es : List (ℕ × ℕ)) (k v : ℕ) (ns : List ℕ) → unwon_weight setting (es ++ (k, v) ∷ []) ns ≤ unwon_weight setting es ns
    all_push_le es k v [] = omega arith
    all_push_le es k v (n ∷ ns) =
        let a : left_at (es ++ (k, v) ∷ []) n ≤ left_at es n = push_le es k v n in
        let b : unwon_weight setting (es ++ (k, v) ∷ []) ns ≤ unwon_weight setting es ns = all_push_le es k v ns in
        omega arith

    won_push : (es : List (ℕ × ℕ)) (k v : ℕ) → find nat_cmp k es ≡ None → (ns : List ℕ) → 0 < times k ns → unwon_weight setting (es ++ (k, v) ∷ []) ns + weight setting k ≤ unwon_weight setting es ns
    won_push es k v e [] l = absurd (omega arith)
    won_push es k v e (n ∷ ns) l = go (nat_eq n k) refl (won_push es k v e ns)
      where
        go : (b : Bool) → nat_eq n k ≡ b → (0 < times k ns → unwon_weight setting (es ++ (k, v) ∷ []) ns + weight setting k ≤ unwon_weight setting es ns) → unwon_weight setting (es ++ (k, v) ∷ []) (n ∷ ns) + weight setting k ≤ unwon_weight setting es (n ∷ ns)
        go true p rest =
            let q : n ≡ k = eqb-true n k p in
            let a : left_at (es ++ (k, v) ∷ []) n ≡ 0 = ap (left_at (es ++ (k, v) ∷ [])) q ∙ ap (λ o. cond (is_some o) 0 (weight setting k)) (find-new es k v e) in
            let b : left_at es n ≡ weight setting k = ap (left_at es) q ∙ ap (λ o. cond (is_some o) 0 (weight setting k)) e in
            let c : unwon_weight setting (es ++ (k, v) ∷ []) ns ≤ unwon_weight setting es ns = all_push_le es k v ns in
            omega arith
        go false p rest =
            let z : one_if (nat_eq n k) ≡ 0 = ap one_if p in
            let a : left_at (es ++ (k, v) ∷ []) n ≤ left_at es n = push_le es k v n in
            let b : unwon_weight setting (es ++ (k, v) ∷ []) ns + weight setting k ≤ unwon_weight setting es ns = rest (omega arith) in
            omega arith

    race_unwon : Covers setting names → (es : List (ℕ × ℕ)) (p : Proposal) → is_collected setting (proposed_name p) ≡ true → (o : Option ℕ) → find nat_cmp (proposed_name p) es ≡ o
        → unwon_weight setting (cond (is_some o) es (es ++ (proposed_name p, proposed_place p) ∷ [])) names + brings setting setting p o ≤ unwon_weight setting es names
    race_unwon cover es p y (Some place) e = omega arith
    race_unwon cover es p y None e = won_push es (proposed_name p) (proposed_place p) e names (cover (proposed_name p) y)

    -- a worker's fall is the system's
    acted_falls : (ws : List Worker) (t : ℕ) (w w' : Worker) → slice_get ws t ≡ Some w → 4 * w'.fields ≤ worker_weight setting w' → (out more : ℕ)
        → worker_weight setting w' + 4 * w.fields + 1 + out ≤ worker_weight setting w + 4 * w'.fields + more → total (worker_left setting) (set ws t w') + 1 + out ≤ total (worker_left setting) ws + more
    acted_falls ws t w w' e b out more h =
        let a : total (worker_left setting) (set ws t w') + worker_left setting w ≡ total (worker_left setting) ws + worker_left setting w' = total-set (worker_left setting) ws t w w' e in
        omega arith

    pub record Less (s s' : System) : Type 0 where
      pub work : work_left setting names s' ≤ work_left setting names s
      pub all : measure setting names s' < measure setting names s

    module _ (cover : Covers setting names) (s s' : System) (parts : List Part) (k : Held setting s parts) where
      bound : (event : Event) → Step setting s event s' → (t : ℕ) (w w' : Worker) → slice_get s.workers t ≡ Some w → s'.workers ≡ set s.workers t w' → 4 * w'.fields ≤ worker_weight setting w'
      bound event r t w w' e ws =
          let n = run_held setting (steps.go {event = event} r steps.stay) parts k in
          let h = sound s' n.0 n.1.0 t w' (ap (λ xs. slice_get xs t) ws ∙ get-set_same s.workers t w' w e) in
          fields_bound setting w' h.fit h.fields

      pub look_less : (t : ℕ) → Step setting s (Look t) s' → Less s s'
      look_less t r =
          let h = sound s parts k t r.worker r.at.is in
          let w' = after_look setting r.worker (cell_of s (cell_wanted setting r.worker)) r.number in
          let a : total (worker_left setting) (set s.workers t w') + 1 + 0 ≤ total (worker_left setting) s.workers + 0 =
          acted_falls s.workers t r.worker w' r.at.is (bound (Look t) r t r.worker w' r.at.is (ap (λ (z : System). z.workers) r.change)) 0 0 (let f = look_falls setting r.worker (cell_of s (cell_wanted setting r.worker)) r.number h.room r.can.no_proposal r.can.slot in omega arith) in
          subst (Less s) (sym r.change) (record { work = omega arith; all = omega arith })

      pub race_less : (t : ℕ) → Step setting s (Race t) s' → Less s s'
      race_less t r =
          let h = sound s parts k t r.worker r.at.is in
          let c : Option ℕ = cell_of s (Some (proposed_name r.proposal)) in
          let w' = after_race r.worker c in
          let g = target_of (current_slot setting r.worker) (proposed_name r.proposal) (proposed r.worker r.proposal (subst (ProposalFit setting r.worker) r.proposed h.proposal)) in
          let u : unwon_weight setting (cond (is_some c) s.forwarded (s.forwarded ++ (proposed_name r.proposal, proposed_place r.proposal) ∷ [])) names + brings setting setting r.proposal c ≤ unwon_weight setting s.forwarded names =
          race_unwon cover s.forwarded r.proposal g.1 c refl in
          let a : total (worker_left setting) (set s.workers t w') + 1 + 0 ≤ total (worker_left setting) s.workers + brings setting setting r.proposal c =
          acted_falls s.workers t r.worker w' r.at.is (bound (Race t) r t r.worker w' r.at.is (ap (λ (z : System). z.workers) r.change)) 0 (brings setting setting r.proposal c)
          (let f = race_falls setting r.worker r.proposal c r.proposed (slot_there setting r.worker (Some (proposed_name r.proposal)) g.0) in omega arith) in
          subst (Less s) (sym r.change) (record { work = omega arith; all = omega arith })

      pub scan_less : (t : ℕ) → Step setting s (Scan t) s' → Less s s'
      scan_less t r =
          let h = sound s parts k t r.worker r.at.is in
          let w' = after_scan r.worker in
          let a : total (worker_left setting) (set s.workers t w') + 1 + 0 ≤ total (worker_left setting) s.workers + 0 =
          acted_falls s.workers t r.worker w' r.at.is (bound (Scan t) r t r.worker w' r.at.is (ap (λ (z : System). z.workers) r.change)) 0 0 (let f = scan_falls setting r.worker h.fit h.fields r.can.hand in omega arith) in
          subst (Less s) (sym r.change) (record { work = omega arith; all = omega arith })

      pub export_less : (t : ℕ) → Step setting s (Export t) s' → Less s s'
      export_less t r =
          let b : Block = record r.block { sent = Some (t, length r.sent) } in
          let w' = after_aside r.worker in
          let a : total (worker_left setting) (set s.workers t w') + 1 + (unscanned_weight setting r.block + 1) ≤ total (worker_left setting) s.workers + 0 =
          acted_falls s.workers t r.worker w' r.at.is (bound (Export t) r t r.worker w' r.at.is (ap (λ (z : System). z.workers) r.change)) (unscanned_weight setting r.block + 1) 0
          (let f = aside_falls setting r.worker r.block r.rest r.oldest in omega arith) in
          let q : total (queue_weight setting) (updated (λ x. x ++ b ∷ []) s.queues t) ≤ total (queue_weight setting) s.queues + (unscanned_weight setting r.block + 1) =
          total-updated_le (queue_weight setting) (λ x. x ++ b ∷ []) (unscanned_weight setting r.block + 1) (λ x. (let p : queue_weight setting (x ++ b ∷ []) ≡ queue_weight setting x + (unscanned_weight setting r.block + 1) = total-push (λ y. unscanned_weight setting y + 1) x b in omega arith)) s.queues t in
          subst (Less s) (sym r.change) (record { work = omega arith; all = omega arith })

      pub take_less : (t u : ℕ) → Step setting s (Take t u) s' → Less s s'
      take_less t u r =
          let w' = after_take r.worker r.block in
          let a : total (worker_left setting) (set s.workers t w') + 1 + 0 ≤ total (worker_left setting) s.workers + unscanned_weight setting r.block =
          acted_falls s.workers t r.worker w' r.at.is (bound (Take t u) r t r.worker w' r.at.is (ap (λ (z : System). z.workers) r.change)) 0 (unscanned_weight setting r.block)
          (let f = take_falls setting r.worker r.block r.free.no_hand in omega arith) in
          let q : total (queue_weight setting) (set s.queues u r.rest) + queue_weight setting (r.block ∷ r.rest) ≡ total (queue_weight setting) s.queues + queue_weight setting r.rest =
          total-set (queue_weight setting) s.queues u (r.block ∷ r.rest) r.rest r.front in
          subst (Less s) (sym r.change) (record { work = omega arith; all = omega arith })

      pub own_less : (t d : ℕ) → Step setting s (Own t d) s' → Less s s'
      own_less t d r =
          let w' = after_own r.worker d in
          let a : total (worker_left setting) (set s.workers t w') + 1 + 0 ≤ total (worker_left setting) s.workers + 0 =
          acted_falls s.workers t r.worker w' r.at.is (bound (Own t d) r t r.worker w' r.at.is (ap (λ (z : System). z.workers) r.change)) 0 0 (let f = own_falls setting r.worker d r.free.no_hand in omega arith) in
          subst (Less s) (sym r.change) (record { work = omega arith; all = omega arith })

      pub own_large_less : (t : ℕ) → Step setting s (OwnLarge t) s' → Less s s'
      own_large_less t r =
          let w' = after_own_large r.worker in
          let a : total (worker_left setting) (set s.workers t w') + 1 + 0 ≤ total (worker_left setting) s.workers + 0 =
          acted_falls s.workers t r.worker w' r.at.is (bound (OwnLarge t) r t r.worker w' r.at.is (ap (λ (z : System). z.workers) r.change)) 0 0 (let f = own_large_falls setting r.worker r.free.no_hand r.work in omega arith) in
          subst (Less s) (sym r.change) (record { work = omega arith; all = omega arith })

      pub idle_less : (t : ℕ) → Step setting s (Idle t) s' → Less s s'
      idle_less t r =
          let q : total (λ b. one_if (not b)) (set s.idle t true) + one_if (not false) ≡ total (λ b. one_if (not b)) s.idle + one_if (not true) = total-set (λ b. one_if (not b)) s.idle t false true r.at.awake in
          subst (Less s) (sym r.change) (record { work = omega arith; all = omega arith })

      pub end_less : (t : ℕ) → Step setting s (End t) s' → Less s s'
      end_less t r =
          let q : total (λ b. one_if (not b)) (set s.ended t true) + one_if (not false) ≡ total (λ b. one_if (not b)) s.ended + one_if (not true) = total-set (λ b. one_if (not b)) s.ended t false true r.not_ended in
          subst (Less s) (sym r.change) (record { work = omega arith; all = omega arith })

      -- each event but a wake
      pub step_less : (event : Event) → Step setting s event s' → (IsWake event → ⊥) → Less s s'
      step_less (Look t) r n = look_less t r
      step_less (Race t) r n = race_less t r
      step_less (Scan t) r n = scan_less t r
      step_less (Export t) r n = export_less t r
      step_less (Take t u) r n = take_less t u r
      step_less (Own t d) r n = own_less t d r
      step_less (OwnLarge t) r n = own_large_less t r
      step_less (Idle t) r n = idle_less t r
      step_less (Wake t) r n = absurd (n tt)
      step_less (End t) r n = end_less t r

      -- and no event makes more of the work
      pub step_work : (event : Event) → Step setting s event s' → work_left setting names s' ≤ work_left setting names s
      step_work (Wake t) r = subst (λ z. work_left setting names z ≤ work_left setting names s) (sym r.change) (omega arith)
      step_work (Look t) r = (look_less t r).work
      step_work (Race t) r = (race_less t r).work
      step_work (Scan t) r = (scan_less t r).work
      step_work (Export t) r = (export_less t r).work
      step_work (Take t u) r = (take_less t u r).work
      step_work (Own t d) r = (own_less t d r).work
      step_work (OwnLarge t) r = (own_large_less t r).work
      step_work (Idle t) r = (idle_less t r).work
      step_work (End t) r = (end_less t r).work

      -- a wake adds one
      pub wake_more : (t : ℕ) → Step setting s (Wake t) s' → measure setting names s' ≤ measure setting names s + 1
      wake_more t r =
          let q : total (λ b. one_if (not b)) (set s.idle t false) + one_if (not true) ≡ total (λ b. one_if (not b)) s.idle + one_if (not false) = total-set (λ b. one_if (not b)) s.idle t true false r.is_idle in
          subst (λ z. measure setting names z ≤ measure setting names s + 1) (sym r.change) (omega arith)

      pub step_count : (event : Event) → Step setting s event s' → measure setting names s' + 1 ≤ measure setting names s + 2 * one_wake event
      step_count (Wake t) r = let a = wake_more t r in omega arith
      step_count (Look t) r = let a = (look_less t r).all in omega arith
      step_count (Race t) r = let a = (race_less t r).all in omega arith
      step_count (Scan t) r = let a = (scan_less t r).all in omega arith
      step_count (Export t) r = let a = (export_less t r).all in omega arith
      step_count (Take t u) r = let a = (take_less t u r).all in omega arith
      step_count (Own t d) r = let a = (own_less t d r).all in omega arith
      step_count (OwnLarge t) r = let a = (own_large_less t r).all in omega arith
      step_count (Idle t) r = let a = (idle_less t r).all in omega arith
      step_count (End t) r = let a = (end_less t r).all in omega arith
