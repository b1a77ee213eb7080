-- A run of the system to its end brings parts together.
use Rattle.std.proofs.Common.{◌≡◌, ◌≢◌, ℕ, zero, suc, ◌+◌, ◌<◌, ◌≤◌, true, false, List, [], ◌∷◌, ◌++◌, Option, Some, refl, sym, ap, subst, ◌∙◌, ⊎_elim, set, length, arith, true≢false, map, is_some, Contains}
use Rattle.std.proofs.lemmas.Bool.{cases_eq}
use Rattle.std.specs.Prelude.{slice_get, if◌then◌else◌}
use Rattle.std.specs.Bool.{OnTrue}
use Rattle.std.specs.Ordering.{nat_cmp}
use Rattle.std.specs.FinMap.{find}
use Rattle.workers.specs.Block.{Block, has_unscanned, updated}
use Rattle.workers.specs.Setting.{Setting}
use Rattle.workers.specs.Worker.{Worker}
use Rattle.workers.specs.WorkerSteps.{IsOutOfWork, IsFree, CanLook, CanScan, cell_wanted, draw_wanted, after_look, after_race, after_scan, after_aside, after_take, after_own, after_own_large, has_open_work}
use Rattle.workers.specs.WorkerRun.{WorkerRun, Act, Looked, Raced, Scanned, Exported, Took, Owned, OwnedLarge, History, CanAct, after, proposed_name, proposed_place}
use Rattle.workers.specs.System.{System, Event, Look, Race, Scan, Export, Take, Own, OwnLarge, Idle, Wake, End, cell_of, without_number}
use Rattle.workers.specs.Steps.{Step, IsAwake, with_worker}
use Rattle.workers.specs.Steps as steps
use Rattle.workers.specs.Total.{total, times, ones}
use Rattle.workers.specs.Joined.{Each, Part, IsOpening, Roomy, Joined}
use Rattle.workers.proofs.Lists.{Each-append, Each-at, Each-set, none-some, get-lt, get-some, length-set_any, length-updated}
use Rattle.workers.proofs.Moves.{Move, Moves, none, more, retires_aside, exports}
use Rattle.workers.proofs.Acts.{run_moves}
use Rattle.workers.proofs.OnePart.{opening-fit}
use Rattle.workers.proofs.SystemParts.{Agree, acted, is_there, quiet_agree, look_agree, race_agree, IsQuiet, quiet-noted, map-set}
use Rattle.workers.proofs.Spent.{Spends, spends_none, spends_look}
use Rattle.workers.proofs.SystemQueues.{Queues, Sent, quiet_queues, take_queues, export_queues, taken_were_exported, taken_once, in-set, set-same, get-set_same, get-set_other, from-first, from, labelled, get-labelled}

abbrev AreUnscanned : List Block → Type 0
AreUnscanned bs = Each (λ b. has_unscanned b ≡ true) bs

-- what is exported has something to scan
module _ (setting : Setting) where
  move_unscanned : {w w' : Worker} {h h' : History} → Move setting w h w' h' → AreUnscanned w.aside × AreUnscanned h.exported → AreUnscanned w'.aside × AreUnscanned h'.exported
  move_unscanned {w = w} (retires_aside d n b a ne u fu) k = (Each-append _ w.aside (b ∷ []) k.0 (u, tt), k.1)
  move_unscanned {w = w} {h = h} (exports b bs e) k = let x : AreUnscanned (b ∷ bs) = subst AreUnscanned e k.0 in (x.1, Each-append _ h.exported (b ∷ []) k.1 (x.0, tt))
  move_unscanned _ k = k

  moves_unscanned : {s : Worker} {k : History} {w : Worker} {h : History} → Moves setting s k w h → AreUnscanned s.aside × AreUnscanned k.exported → AreUnscanned w.aside × AreUnscanned h.exported
  moves_unscanned none k = k
  moves_unscanned (more ms m) k = move_unscanned m (moves_unscanned ms k)

  pub record Begun (p : Part) : Type 0 where
    pub opening : IsOpening p.start
    pub room : Roomy setting p.start

  exports_unscanned : (p : Part) → Begun p → WorkerRun setting p.start p.final p.history → AreUnscanned p.history.exported
  exports_unscanned p b r =
      let m = run_moves setting r (opening-fit p.start b.opening) b.room b.opening.no_proposal in
      (moves_unscanned m.moves (subst AreUnscanned (sym b.opening.no_aside) tt, tt)).1

  pub record Held (s : System) (parts : List Part) : Type 0 where
    pub begun : Each Begun parts
    pub agree : Agree setting s parts
    pub queues : Queues s parts
    pub lanes : length s.queues ≡ length parts
    pub idle : (t : ℕ) (p : Part) → slice_get parts t ≡ Some p → slice_get s.idle t ≡ Some true → IsOutOfWork p.final × (slice_get s.queues t ≡ Some [])
    pub ended : (t : ℕ) → slice_get s.ended t ≡ Some true → slice_get s.idle t ≡ Some true

  abbrev pub Next : List ℕ → System → List Part → Type 0
  Next free s' parts = (parts' : List Part) × (Held s' parts' × ((map (λ (p : Part). p.start) parts' ≡ map (λ (p : Part). p.start) parts) × Spends free s'.free parts parts'))

  get-mapped : {A B : Type 0} (g : A → B) (xs : List A) (i : ℕ) (x : A) → slice_get xs i ≡ Some x → slice_get (map g xs) i ≡ Some (g x)
  get-mapped g [] i x e = absurd (none-some e)
  get-mapped g (y ∷ xs) zero x e = let q : y ≡ x = cc in ap (λ z. Some (g z)) q
  get-mapped g (y ∷ xs) (suc i) x e = get-mapped g xs i x e

  true-false : {A : Type 0} → Some true ≡ Some false → A
  true-false e = absurd (let q : true ≡ false = cc in true≢false q)

  module _ (s : System) (parts : List Part) (k : Held s parts) (t : ℕ) (p : Part) (there : slice_get parts t ≡ Some p) (awake : slice_get s.idle t ≡ Some false) where
    same_starts : (act : Act) → map (λ (q : Part). q.start) (set parts t (acted setting p act)) ≡ map (λ (q : Part). q.start) parts
    same_starts act = map-set (λ (q : Part). q.start) parts t (acted setting p act) ∙ set-same (map (λ (q : Part). q.start) parts) t p.start (get-mapped (λ (q : Part). q.start) parts t p there)

    begun_after : (act : Act) → Each Begun (set parts t (acted setting p act))
    begun_after act = Each-set Begun parts t (acted setting p act) (let b = Each-at Begun parts t p there k.begun in record { opening = b.opening; room = b.room }) k.begun

    -- an awake worker acted
    next : (s' : System) (act : Act) → Agree setting s' (set parts t (acted setting p act)) → Queues s' (set parts t (acted setting p act)) → s'.idle ≡ s.idle → s'.ended ≡ s.ended → length s'.queues ≡ length s.queues
        → ((v : ℕ) → v ≢ t → slice_get s.idle v ≡ Some true → slice_get s.queues v ≡ Some [] → slice_get s'.queues v ≡ Some []) → Spends s.free s'.free parts (set parts t (acted setting p act)) → Next s.free s' parts
    next s' act a q i e ls still spent = (
      set parts t (acted setting p act),
      (
        record {
          begun = begun_after act;
          agree = a;
          queues = q;
          lanes = ls ∙ k.lanes ∙ sym (length-set_any parts t (acted setting p act));
          idle = λ v y g x. ⊎_elim
              (λ (r : (v ≡ t) × (acted setting p act ≡ y)). true-false (sym x ∙ ap (λ z. slice_get z v) i ∙ ap (slice_get s.idle) r.0 ∙ awake))
              (λ (r : (v ≢ t) × (slice_get parts v ≡ Some y)). (let o = k.idle v y r.1 (ap (λ z. slice_get z v) (sym i) ∙ x) in (o.0, still v r.0 (ap (λ z. slice_get z v) (sym i) ∙ x) o.1)))
              (in-set setting s parts k.queues t p there (acted setting p act) v y g);
          ended = λ v x. ap (λ z. slice_get z v) i ∙ k.ended v (ap (λ z. slice_get z v) (sym e) ∙ x);
        },
        (same_starts act, spent),
      ),
    )

    -- an act that leaves all that is shared as it is
    alone : (act : Act) → IsQuiet act → CanAct setting p.final act → (acted setting p act).history.exported ≡ p.history.exported → (acted setting p act).history.taken ≡ p.history.taken → Next s.free (with_worker s t (after setting p.final act)) parts
    alone act q can ee et =
        next (with_worker s t (after setting p.final act)) act
        (quiet_agree setting s parts k.agree t p there (with_worker s t (after setting p.final act)) act q can refl refl refl)
        (quiet_queues setting s parts k.queues t p there (with_worker s t (after setting p.final act)) (acted setting p act) ee et refl refl) refl refl refl (λ v n i e. e)
        (spends_none setting parts t p there act s.free s.free (quiet-noted setting p.final act p.history q).1 refl)

  same_idle : (s s' : System) (parts : List Part) → Held s parts → s'.workers ≡ s.workers → s'.forwarded ≡ s.forwarded → s'.free ≡ s.free → s'.exported ≡ s.exported → s'.queues ≡ s.queues
      → ((t : ℕ) (p : Part) → slice_get parts t ≡ Some p → slice_get s'.idle t ≡ Some true → IsOutOfWork p.final × (slice_get s.queues t ≡ Some []))
      → ((t : ℕ) → slice_get s'.ended t ≡ Some true → slice_get s'.idle t ≡ Some true) → Next s.free s' parts
  same_idle s s' parts k ws fw fr es qs idle ended = (
    parts,
    (
      record {
        begun = k.begun;
        agree = record {
          workers = k.agree.workers ∙ sym ws;
          runs = k.agree.runs;
          known = subst (λ xs. Each (λ (p : Part). Each (λ (q : ℕ × ℕ). find nat_cmp q.0 xs ≡ Some q.1) p.history.known) parts) (sym fw) k.agree.known;
          won = λ name. k.agree.won name ∙ ap (λ xs. ones (find nat_cmp name xs)) (sym fw);
          drawn = λ n. subst (λ xs. total (λ (p : Part). times n p.history.drawn) parts + times n xs ≤ 1) (sym fr) (k.agree.drawn n);
        };
        queues = record {
          exported = es ∙ k.queues.exported;
          queues = λ u p g. (let h = k.queues.queues u p g in record { front = h.front; within = h.within; queue = ap (λ z. slice_get z u) qs ∙ h.queue; taken = h.taken });
          sent = subst (λ xs. Each (λ (p : Part). Each (Sent xs) p.history.taken) parts) (sym es) k.queues.sent;
        };
        lanes = ap length qs ∙ k.lanes;
        idle = λ t p g i. (let o = idle t p g i in (o.0, ap (λ z. slice_get z t) qs ∙ o.1));
        ended = ended;
      },
      (refl, λ f. ap (λ xs. total (λ (p : Part). total f p.history.drawn) parts + total f xs) fr),
    ),
  )

  step_held : (s s' : System) (event : Event) (parts : List Part) → Held s parts → Step setting s event s' → Next s.free s' parts
  step_held s s' (Look t) parts k r =
      let x = is_there setting s parts t r.worker k.agree r.at.is in
      let S : Worker → System = λ w. record s { workers = set s.workers t (after_look setting w (cell_of s (cell_wanted setting w)) r.number); free = if draw_wanted setting w (cell_of s (cell_wanted setting w)) then without_number r.number s.free else s.free } in
      let act : Act = Looked (cell_of s (cell_wanted setting x.0.final)) r.number in
      subst (λ z. Next s.free z parts) (sym (r.change ∙ ap S (sym x.1.1)))
      (next s parts k t x.0 x.1.0 r.at.awake (S x.0.final) act
      (look_agree setting s parts k.agree t x.0 x.1.0 r.number (subst (CanLook setting) (sym x.1.1) r.can) (subst (λ w. OnTrue (draw_wanted setting w (cell_of s (cell_wanted setting w))) (Contains s.free r.number)) (sym x.1.1) r.drawn))
      (quiet_queues setting s parts k.queues t x.0 x.1.0 (S x.0.final) (acted setting x.0 act) refl refl refl refl) refl refl refl (λ v n i e. e)
      (spends_look setting parts t x.0 x.1.0 (cell_of s (cell_wanted setting x.0.final)) r.number s.free (λ n. (let d = k.agree.drawn n in omega arith)) (subst (λ w. OnTrue (draw_wanted setting w (cell_of s (cell_wanted setting w))) (Contains s.free r.number)) (sym x.1.1) r.drawn)))
  step_held s s' (Race t) parts k r =
      let x = is_there setting s parts t r.worker k.agree r.at.is in
      let c : Option ℕ = cell_of s (Some (proposed_name r.proposal)) in
      let S : Worker → System = λ w. record s { workers = set s.workers t (after_race w c); forwarded = if is_some c then s.forwarded else s.forwarded ++ (proposed_name r.proposal, proposed_place r.proposal) ∷ [] } in
      subst (λ z. Next s.free z parts) (sym (r.change ∙ ap S (sym x.1.1)))
      (next s parts k t x.0 x.1.0 r.at.awake (S x.0.final) (Raced c)
      (race_agree setting s parts k.agree t x.0 x.1.0 r.proposal (ap (λ (w : Worker). w.proposal) x.1.1 ∙ r.proposed))
      (quiet_queues setting s parts k.queues t x.0 x.1.0 (S x.0.final) (acted setting x.0 (Raced c)) refl refl refl refl) refl refl refl (λ v n i e. e)
      (spends_none setting parts t x.0 x.1.0 (Raced c) s.free s.free refl refl))
  step_held s s' (Scan t) parts k r =
      let x = is_there setting s parts t r.worker k.agree r.at.is in
      subst (λ z. Next s.free z parts) (sym (r.change ∙ ap (λ w. with_worker s t (after_scan w)) (sym x.1.1)))
      (alone s parts k t x.0 x.1.0 r.at.awake Scanned tt (subst (CanScan setting) (sym x.1.1) r.can) refl refl)
  step_held s s' (Export t) parts k r =
      let x = is_there setting s parts t r.worker k.agree r.at.is in
      let o : x.0.final.aside ≡ r.block ∷ r.rest = ap (λ (w : Worker). w.aside) x.1.1 ∙ r.oldest in
      let S : Worker → System = λ w. record s { workers = set s.workers t (after_aside w); queues = updated (λ q. q ++ record r.block { sent = Some (t, length r.sent) } ∷ []) s.queues t; exported = updated (λ q. q ++ record r.block { sent = Some (t, length r.sent) } ∷ []) s.exported t } in
      subst (λ z. Next s.free z parts) (sym (r.change ∙ ap S (sym x.1.1)))
      (next s parts k t x.0 x.1.0 r.at.awake (S x.0.final) Exported
      (quiet_agree setting s parts k.agree t x.0 x.1.0 (S x.0.final) Exported tt (λ e. full (sym o ∙ e)) refl refl refl)
      (export_queues setting s parts k.queues t x.0 x.1.0 r.block r.rest r.sent (set s.workers t (after_aside x.0.final)) o r.sent_is) refl refl (length-updated _ s.queues t)
      (λ v n i e. updated-other (λ q. q ++ record r.block { sent = Some (t, length r.sent) } ∷ []) s.queues t v n ∙ e)
      (spends_none setting parts t x.0 x.1.0 Exported s.free s.free refl refl))
    where
      full : {A : Type 0} {y : A} {ys : List A} → y ∷ ys ≡ [] → ⊥
      full e = cc

      updated-other : {A : Type 0} (f : A → A) (xs : List A) (i v : ℕ) → v ≢ i → slice_get (updated f xs i) v ≡ slice_get xs v
      updated-other f [] i v n = refl
      updated-other f (y ∷ xs) zero zero n = absurd (n refl)
      updated-other f (y ∷ xs) zero (suc v) n = refl
      updated-other f (y ∷ xs) (suc i) zero n = refl
      updated-other f (y ∷ xs) (suc i) (suc v) n = updated-other f xs i v (λ q. n (ap suc q))
  step_held s s' (Take t u) parts k r =
      let x = is_there setting s parts t r.worker k.agree r.at.is in
      let y = exporter u r.block r.rest r.front in
      let S : Worker → System = λ w. record s { workers = set s.workers t (after_take w r.block); queues = set s.queues u r.rest; taken = updated (λ l. l ++ (u, r.position) ∷ []) s.taken t } in
      subst (λ z. Next s.free z parts) (sym (r.change ∙ ap S (sym x.1.1)))
      (next s parts k t x.0 x.1.0 r.at.awake (S x.0.final) (Took r.block)
      (quiet_agree setting s parts k.agree t x.0 x.1.0 (S x.0.final) (Took r.block) tt (subst IsFree (sym x.1.1) r.free, y.1.1) refl refl refl)
      (take_queues setting s parts k.queues t x.0 x.1.0 u y.0 r.block r.rest (updated (λ l. l ++ (u, r.position) ∷ []) s.taken t) (set s.workers t (after_take x.0.final r.block)) y.1.0 r.front) refl refl (length-set_any s.queues u r.rest)
      (λ v n i e. ⊎_elim (λ (q : v ≡ u). absurd (clash (sym (ap (slice_get s.queues) (sym q) ∙ e) ∙ r.front))) (λ (m : v ≢ u). get-set_other s.queues u v r.rest m ∙ e) (cases_eq v u))
      (spends_none setting parts t x.0 x.1.0 (Took r.block) s.free s.free refl refl))
    where
      clash : {A : Type 0} {y : A} {ys : List A} → Some [] ≡ Some (y ∷ ys) → ⊥
      clash e = cc

      exporter : (u : ℕ) (b : Block) (rest : List Block) → slice_get s.queues u ≡ Some (b ∷ rest) → (y : Part) × ((slice_get parts u ≡ Some y) × (has_unscanned b ≡ true))
      exporter u b rest e =
          let l : u < length s.queues = get-lt s.queues u (b ∷ rest) e in
          let m : length s.queues ≡ length parts = k.lanes in
          let y = get-some parts u (omega arith) in
          let q = k.queues.queues u y.0 y.1 in
          let z : Some (from q.front (labelled u 0 y.0.history.exported)) ≡ Some (b ∷ rest) = sym q.queue ∙ e in
          let f = from-first q.front (labelled u 0 y.0.history.exported) b rest cc in
          let x = get-labelled u 0 q.front q.front y.0.history.exported b (omega arith) f.0 in
          let h : has_unscanned x.0 ≡ true = Each-at (λ c. has_unscanned c ≡ true) y.0.history.exported q.front x.0 x.1.0 (exports_unscanned y.0 (Each-at Begun parts u y.0 y.1 k.begun) (Each-at (λ (w : Part). WorkerRun setting w.start w.final w.history) parts u y.0 y.1 k.agree.runs)) in
          (y.0, (y.1, ap has_unscanned x.1.1 ∙ h))
  step_held s s' (Own t d) parts k r =
      let x = is_there setting s parts t r.worker k.agree r.at.is in
      subst (λ z. Next s.free z parts) (sym (r.change ∙ ap (λ w. with_worker s t (after_own w d)) (sym x.1.1)))
      (alone s parts k t x.0 x.1.0 r.at.awake (Owned d) tt (subst IsFree (sym x.1.1) r.free, ap (λ w. has_open_work w d) x.1.1 ∙ r.work) refl refl)
  step_held s s' (OwnLarge t) parts k r =
      let x = is_there setting s parts t r.worker k.agree r.at.is in
      subst (λ z. Next s.free z parts) (sym (r.change ∙ ap (λ w. with_worker s t (after_own_large w)) (sym x.1.1)))
      (alone s parts k t x.0 x.1.0 r.at.awake OwnedLarge tt (subst IsFree (sym x.1.1) r.free, λ e. r.work (ap (λ (w : Worker). w.large) (sym x.1.1) ∙ e)) refl refl)
  step_held s s' (Idle t) parts k r =
      subst (λ z. Next s.free z parts) (sym r.change)
      (same_idle s (record s { idle = set s.idle t true }) parts k refl refl refl refl refl
      (λ v p g i. ⊎_elim
      (λ (q : v ≡ t). (let x = is_there setting s parts t r.worker k.agree r.at.is in
      let c : Some p ≡ Some x.0 = sym g ∙ ap (slice_get parts) q ∙ x.1.0 in
      let d : p ≡ x.0 = cc in
      (subst IsOutOfWork (sym (ap (λ (z : Part). z.final) d ∙ x.1.1)) r.out, ap (slice_get s.queues) q ∙ r.queue)))
      (λ (n : v ≢ t). k.idle v p g (sym (get-set_other s.idle t v true n) ∙ i)) (cases_eq v t))
      (λ v e. ⊎_elim (λ (q : v ≡ t). ap (slice_get (set s.idle t true)) q ∙ get-set_same s.idle t true false r.at.awake) (λ (n : v ≢ t). get-set_other s.idle t v true n ∙ k.ended v e) (cases_eq v t)))
  step_held s s' (Wake t) parts k r =
      subst (λ z. Next s.free z parts) (sym r.change)
      (same_idle s (record s { idle = set s.idle t false }) parts k refl refl refl refl refl
      (λ v p g i. ⊎_elim
      (λ (q : v ≡ t). true-false (sym i ∙ ap (slice_get (set s.idle t false)) q ∙ get-set_same s.idle t false true r.is_idle))
      (λ (n : v ≢ t). k.idle v p g (sym (get-set_other s.idle t v false n) ∙ i)) (cases_eq v t))
      (λ v e. ⊎_elim (λ (q : v ≡ t). true-false (sym e ∙ ap (slice_get s.ended) q ∙ r.not_ended)) (λ (n : v ≢ t). get-set_other s.idle t v false n ∙ k.ended v e) (cases_eq v t)))
  step_held s s' (End t) parts k r =
      subst (λ z. Next s.free z parts) (sym r.change)
      (same_idle s (record s { ended = set s.ended t true }) parts k refl refl refl refl refl k.idle
      (λ v e. ⊎_elim (λ (q : v ≡ t). ap (slice_get s.idle) q ∙ r.is_idle) (λ (n : v ≢ t). k.ended v (sym (get-set_other s.ended t v true n) ∙ e)) (cases_eq v t)))

  -- and so does each event
  pub run_held : {s s' : System} {events : List Event} → steps.Run setting s events s' → (parts : List Part) → Held s parts → Next s.free s' parts
  run_held steps.stay parts k = (parts, (k, (refl, λ f. refl)))
  run_held {s = s} (steps.go {mid = m} {event = event} e rest) parts k =
      let n = step_held s m event parts k e in
      let r = run_held rest n.0 n.1.0 in
      (r.0, (r.1.0, (r.1.1.0 ∙ n.1.1.0, λ f. r.1.1.1 f ∙ n.1.1.1 f)))

  -- where every worker ended, the parts are joined, each name at the place that its cell holds
  pub joined : (s : System) (parts : List Part) → Held s parts → ((t : ℕ) (p : Part) → slice_get parts t ≡ Some p → slice_get s.ended t ≡ Some true) → Joined setting (λ name. find nat_cmp name s.forwarded) parts
  joined s parts k done =
      record {
        runs = at_all parts (λ t p g. (
            let b = Each-at Begun parts t p g k.begun in
            record { opening = b.opening; room = b.room; run = Each-at (λ (w : Part). WorkerRun setting w.start w.final w.history) parts t p g k.agree.runs; out = (k.idle t p g (k.ended t (done t p g))).0 }));
        known = k.agree.known;
        won_once = k.agree.won;
        drawn_once = λ n. (let d = k.agree.drawn n in omega arith);
        taken = taken_were_exported s parts k.queues;
        taken_once = taken_once s parts k.queues (λ u p g. (k.idle u p g (k.ended u (done u p g))).1);
      }
    where
      at_all : {P : Part → Type 0} (ps : List Part) → ((t : ℕ) (p : Part) → slice_get ps t ≡ Some p → P p) → Each P ps
      at_all [] h = tt
      at_all (p ∷ ps) h = (h 0 p refl, at_all ps (λ t q g. h (suc t) q g))
