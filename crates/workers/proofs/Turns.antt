-- In a run each worker takes of its own queue what it exported before.
use Rattle.std.proofs.Common.{◌≡◌, ◌≢◌, ℕ, ◌+◌, ◌<◌, ◌≤◌, true, false, List, [], ◌∷◌, ◌++◌, Option, Some, refl, sym, ap, subst, ◌∙◌, ⊎_elim, set, length, arith, is_some, Contains}
use Rattle.std.specs.Prelude.{slice_get, if◌then◌else◌}
use Rattle.std.specs.Bool.{OnTrue}
use Rattle.std.specs.Option.{option_map_or}
use Rattle.std.specs.Ordering.{nat_cmp}
use Rattle.std.specs.FinMap.{find}
use Rattle.workers.specs.Block.{Block, has_unscanned, updated}
use Rattle.workers.specs.Setting.{Setting}
use Rattle.workers.specs.Worker.{Worker}
use Rattle.workers.specs.WorkerSteps.{IsFree, CanLook, CanScan, cell_wanted, draw_wanted, after_look, after_race, after_scan, after_aside, after_take, after_own, after_own_large, has_open_work}
use Rattle.workers.specs.WorkerRun.{go, Act, Looked, Raced, Scanned, Exported, Took, Owned, OwnedLarge, History, CanAct, after, proposed_name, proposed_place}
use Rattle.workers.specs.System.{System, Event, Look, Race, Scan, Export, Take, Own, OwnLarge, Idle, Wake, End, cell_of, without_number}
use Rattle.workers.specs.Steps.{Step, with_worker, Takes}
use Rattle.workers.specs.Steps as steps
use Rattle.workers.specs.Total.{total, times, ones}
use Rattle.workers.specs.Joined.{Each, Part}
use Rattle.workers.specs.Refused.{HasBegun}
use Rattle.workers.specs.Ordered.{LeftHere, InTurn, TurnRun}
use Rattle.workers.proofs.Lists.{Each-append, Each-at, Each-set, get-lt, get-some, length-set_any, length-updated}
use Rattle.workers.proofs.Moves.{Move, Moves, none, more, retires_aside, exports}
use Rattle.workers.proofs.Space.{moves}
use Rattle.workers.proofs.SystemParts.{Agree, acted, is_there, quiet_agree, look_agree, race_agree, IsQuiet, quiet-noted}
use Rattle.workers.proofs.Spent.{Spends, spends_none, spends_look}
use Rattle.workers.proofs.SystemQueues.{Queues, Sent, quiet_queues, take_queues, export_queues, in-set, from-first, from, labelled, get-labelled}
use Rattle.workers.proofs.SystemRun.{Begun}

abbrev AreUnscanned : List Block → Type 0
AreUnscanned bs = Each (λ b. has_unscanned b ≡ true) bs

same_label : (t u i j : ℕ) → ◌≡◌ {A = Option (ℕ × ℕ)} (Some (u, i)) (Some (t, j)) → (t ≡ u) × (j ≡ i)
same_label t u i j e = (sym (ap (λ o. option_map_or (λ (p : ℕ × ℕ). p.0) o 0) e), sym (ap (λ o. option_map_or (λ (p : ℕ × ℕ). p.1) o 0) e))

module _ (setting : Setting) where
  -- what is exported has something to scan
  move_unscanned : {w w' : Worker} {h h' : History} → Move setting w h w' h' → AreUnscanned w.aside × AreUnscanned h.exported → AreUnscanned w'.aside × AreUnscanned h'.exported
  move_unscanned {w = w} (retires_aside d n b a ne u fu) k = (Each-append _ w.aside (b ∷ []) k.0 (u, tt), k.1)
  move_unscanned {w = w} {h = h} (exports b bs e) k = let x : AreUnscanned (b ∷ bs) = subst AreUnscanned e k.0 in (x.1, Each-append _ h.exported (b ∷ []) k.1 (x.0, tt))
  move_unscanned _ k = k

  moves_unscanned : {s : Worker} {k : History} {w : Worker} {h : History} → Moves setting s k w h → AreUnscanned s.aside × AreUnscanned k.exported → AreUnscanned w.aside × AreUnscanned h.exported
  moves_unscanned none k = k
  moves_unscanned (more ms m) k = move_unscanned m (moves_unscanned ms k)

  exports_unscanned : (p : Part) → HasBegun setting p → AreUnscanned p.history.exported
  exports_unscanned p b = (moves_unscanned (moves setting p b) (subst AreUnscanned (sym b.opening.no_aside) tt, tt)).1

  -- the parts of a state, each by a run in which it takes in turn
  pub record Turning (free : List ℕ) (s : System) (parts : List Part) : Type 0 where
    pub begun : Each (Begun setting) parts
    pub agree : Agree setting s parts
    pub queues : Queues s parts
    pub lanes : length s.queues ≡ length parts
    pub turns : (t : ℕ) (p : Part) → slice_get parts t ≡ Some p → TurnRun setting t p
    pub spent : (f : ℕ → ℕ) → total (λ (p : Part). total f p.history.drawn) parts + total f s.free ≡ total f free

  abbrev pub Turned : List ℕ → System → Type 0
  Turned free s = (parts : List Part) × Turning free s parts

  module _ (free : List ℕ) (s : System) (parts : List Part) (k : Turning free s parts) where
    module _ (t : ℕ) (p : Part) (there : slice_get parts t ≡ Some p) where
      -- worker t acted
      next : (s' : System) (act : Act) → Agree setting s' (set parts t (acted setting p act)) → Queues s' (set parts t (acted setting p act)) → length s'.queues ≡ length s.queues → CanAct setting p.final act → InTurn setting t act p.history → Spends s.free s'.free parts (set parts t (acted setting p act)) → Turned free s'
      next s' act a q ls can turn spends = (
        set parts t (acted setting p act),
        record {
          begun = Each-set (Begun setting) parts t (acted setting p act) (let b = Each-at (Begun setting) parts t p there k.begun in record { opening = b.opening; room = b.room }) k.begun;
          agree = a;
          queues = q;
          lanes = ls ∙ k.lanes ∙ sym (length-set_any parts t (acted setting p act));
          turns = λ v y g. ⊎_elim
              (λ (r : (v ≡ t) × (acted setting p act ≡ y)). subst (λ u. TurnRun setting u y) (sym r.0) (subst (TurnRun setting t) r.1 (record { run = go act (k.turns t p there).run can; turns = (turn, (k.turns t p there).turns) })))
              (λ (r : (v ≢ t) × (slice_get parts v ≡ Some y)). k.turns v y r.1)
              (in-set setting s parts k.queues t p there (acted setting p act) v y g);
          spent = λ f. spends f ∙ k.spent f;
        },
      )

      -- an act that leaves all that is shared as it is
      alone : (act : Act) → IsQuiet act → CanAct setting p.final act → InTurn setting t act p.history → (acted setting p act).history.exported ≡ p.history.exported → (acted setting p act).history.taken ≡ p.history.taken → Turned free (with_worker s t (after setting p.final act))
      alone act q can turn ee et =
          next (with_worker s t (after setting p.final act)) act
          (quiet_agree setting s parts k.agree t p there (with_worker s t (after setting p.final act)) act q can refl refl refl)
          (quiet_queues setting s parts k.queues t p there (with_worker s t (after setting p.final act)) (acted setting p act) ee et refl refl) refl can turn
          (spends_none setting parts t p there act s.free s.free (quiet-noted setting p.final act p.history q).1 refl)

    -- an event of nobody's part
    idly : (s' : System) → s'.workers ≡ s.workers → s'.forwarded ≡ s.forwarded → s'.free ≡ s.free → s'.exported ≡ s.exported → s'.queues ≡ s.queues → Turned free s'
    idly s' ws fw fr es qs = (
      parts,
      record {
        begun = k.begun;
        agree = record {
          workers = k.agree.workers ∙ sym ws;
          runs = k.agree.runs;
          known = subst (λ xs. Each (λ (p : Part). Each (λ (q : ℕ × ℕ). find nat_cmp q.0 xs ≡ Some q.1) p.history.known) parts) (sym fw) k.agree.known;
          won = λ name. k.agree.won name ∙ ap (λ xs. ones (find nat_cmp name xs)) (sym fw);
          drawn = λ n. subst (λ xs. total (λ (p : Part). times n p.history.drawn) parts + times n xs ≤ 1) (sym fr) (k.agree.drawn n);
        };
        queues = record {
          exported = es ∙ k.queues.exported;
          queues = λ u p g. (let h = k.queues.queues u p g in record { front = h.front; within = h.within; queue = ap (λ z. slice_get z u) qs ∙ h.queue; taken = h.taken });
          sent = subst (λ xs. Each (λ (p : Part). Each (Sent xs) p.history.taken) parts) (sym es) k.queues.sent;
        };
        lanes = ap length qs ∙ k.lanes;
        turns = k.turns;
        spent = λ f. ap (λ xs. total (λ (p : Part). total f p.history.drawn) parts + total f xs) fr ∙ k.spent f;
      },
    )

    -- what stands at the front of a queue left its exporter, with something to scan
    record Front (u : ℕ) (b : Block) : Type 0 where
      part : Part
      there : slice_get parts u ≡ Some part
      i : ℕ
      left : LeftHere u part.history.exported b i
      unscanned : has_unscanned b ≡ true

    front_of_queue : (u : ℕ) (b : Block) (rest : List Block) → slice_get s.queues u ≡ Some (b ∷ rest) → Front u b
    front_of_queue u b rest e =
        let l : u < length s.queues = get-lt s.queues u (b ∷ rest) e in
        let m : length s.queues ≡ length parts = k.lanes in
        let y = get-some parts u (omega arith) in
        let q = k.queues.queues u y.0 y.1 in
        let z : Some (from q.front (labelled u 0 y.0.history.exported)) ≡ Some (b ∷ rest) = sym q.queue ∙ e in
        let f = from-first q.front (labelled u 0 y.0.history.exported) b rest cc in
        let x = get-labelled u 0 q.front q.front y.0.history.exported b (omega arith) f.0 in
        let g = Each-at (Begun setting) parts u y.0 y.1 k.begun in
        let a = exports_unscanned y.0 (record { opening = g.opening; room = g.room; run = (k.turns u y.0 y.1).run }) in
        record {
          part = y.0;
          there = y.1;
          i = q.front;
          left = record { sent = x.0; there = x.1.0; same = x.1.1 };
          unscanned = ap has_unscanned x.1.1 ∙ Each-at (λ c. has_unscanned c ≡ true) y.0.history.exported q.front x.0 x.1.0 a;
        }

    -- where its label names the taker, the taker exported it
    in_turn : (t u : ℕ) (p : Part) (b : Block) → slice_get parts t ≡ Some p → Front u b → InTurn setting t (Took b) p.history
    in_turn t u p b there f j label =
        let l = same_label t u f.i j (sym (ap (λ (y : Block). y.sent) f.left.same) ∙ label) in
        let c : Some f.part ≡ Some p = sym f.there ∙ ap (slice_get parts) (sym l.0) ∙ there in
        let d : f.part ≡ p = cc in
        subst (LeftHere t p.history.exported b) (sym l.1) (subst (λ v. LeftHere v p.history.exported b f.i) (sym l.0) (subst (λ (x : Part). LeftHere u x.history.exported b f.i) d f.left))

    step_turns : (s' : System) (event : Event) → Step setting s event s' → Turned free s'
    step_turns s' (Look t) r =
        let x = is_there setting s parts t r.worker k.agree r.at.is in
        let S : Worker → System = λ w. record s { workers = set s.workers t (after_look setting w (cell_of s (cell_wanted setting w)) r.number); free = if draw_wanted setting w (cell_of s (cell_wanted setting w)) then without_number r.number s.free else s.free } in
        let act : Act = Looked (cell_of s (cell_wanted setting x.0.final)) r.number in
        let can = subst (CanLook setting) (sym x.1.1) r.can in
        let drawn = subst (λ w. OnTrue (draw_wanted setting w (cell_of s (cell_wanted setting w))) (Contains s.free r.number)) (sym x.1.1) r.drawn in
        subst (Turned free) (sym (r.change ∙ ap S (sym x.1.1)))
        (next t x.0 x.1.0 (S x.0.final) act
        (look_agree setting s parts k.agree t x.0 x.1.0 r.number can drawn)
        (quiet_queues setting s parts k.queues t x.0 x.1.0 (S x.0.final) (acted setting x.0 act) refl refl refl refl) refl can tt
        (spends_look setting parts t x.0 x.1.0 (cell_of s (cell_wanted setting x.0.final)) r.number s.free (λ n. (let d = k.agree.drawn n in omega arith)) drawn))
    step_turns s' (Race t) r =
        let x = is_there setting s parts t r.worker k.agree r.at.is in
        let c : Option ℕ = cell_of s (Some (proposed_name r.proposal)) in
        let S : Worker → System = λ w. record s { workers = set s.workers t (after_race w c); forwarded = if is_some c then s.forwarded else s.forwarded ++ (proposed_name r.proposal, proposed_place r.proposal) ∷ [] } in
        let proposed : x.0.final.proposal ≡ Some r.proposal = ap (λ (w : Worker). w.proposal) x.1.1 ∙ r.proposed in
        subst (Turned free) (sym (r.change ∙ ap S (sym x.1.1)))
        (next t x.0 x.1.0 (S x.0.final) (Raced c)
        (race_agree setting s parts k.agree t x.0 x.1.0 r.proposal proposed)
        (quiet_queues setting s parts k.queues t x.0 x.1.0 (S x.0.final) (acted setting x.0 (Raced c)) refl refl refl refl) refl (ap is_some proposed) tt
        (spends_none setting parts t x.0 x.1.0 (Raced c) s.free s.free refl refl))
    step_turns s' (Scan t) r =
        let x = is_there setting s parts t r.worker k.agree r.at.is in
        subst (Turned free) (sym (r.change ∙ ap (λ w. with_worker s t (after_scan w)) (sym x.1.1)))
        (alone t x.0 x.1.0 Scanned tt (subst (CanScan setting) (sym x.1.1) r.can) tt refl refl)
    step_turns s' (Export t) r =
        let x = is_there setting s parts t r.worker k.agree r.at.is in
        let o : x.0.final.aside ≡ r.block ∷ r.rest = ap (λ (w : Worker). w.aside) x.1.1 ∙ r.oldest in
        let S : Worker → System = λ w. record s { workers = set s.workers t (after_aside w); queues = updated (λ q. q ++ record r.block { sent = Some (t, length r.sent) } ∷ []) s.queues t; exported = updated (λ q. q ++ record r.block { sent = Some (t, length r.sent) } ∷ []) s.exported t } in
        subst (Turned free) (sym (r.change ∙ ap S (sym x.1.1)))
        (next t x.0 x.1.0 (S x.0.final) Exported
        (quiet_agree setting s parts k.agree t x.0 x.1.0 (S x.0.final) Exported tt (λ e. full (sym o ∙ e)) refl refl refl)
        (export_queues setting s parts k.queues t x.0 x.1.0 r.block r.rest r.sent (set s.workers t (after_aside x.0.final)) o r.sent_is) (length-updated _ s.queues t) (λ e. full (sym o ∙ e)) tt
        (spends_none setting parts t x.0 x.1.0 Exported s.free s.free refl refl))
      where
        full : {A : Type 0} {y : A} {ys : List A} → y ∷ ys ≡ [] → ⊥
        full e = cc
    step_turns s' (Take t u) r =
        let x = is_there setting s parts t r.worker k.agree r.at.is in
        let y = front_of_queue u r.block r.rest r.front in
        let S : Worker → System = λ w. record s { workers = set s.workers t (after_take w r.block); queues = set s.queues u r.rest; taken = updated (λ l. l ++ (u, r.position) ∷ []) s.taken t } in
        let can : CanAct setting x.0.final (Took r.block) = (subst IsFree (sym x.1.1) r.free, y.unscanned) in
        subst (Turned free) (sym (r.change ∙ ap S (sym x.1.1)))
        (next t x.0 x.1.0 (S x.0.final) (Took r.block)
        (quiet_agree setting s parts k.agree t x.0 x.1.0 (S x.0.final) (Took r.block) tt can refl refl refl)
        (take_queues setting s parts k.queues t x.0 x.1.0 u y.part r.block r.rest (updated (λ l. l ++ (u, r.position) ∷ []) s.taken t) (set s.workers t (after_take x.0.final r.block)) y.there r.front) (length-set_any s.queues u r.rest) can
        (in_turn t u x.0 r.block x.1.0 y)
        (spends_none setting parts t x.0 x.1.0 (Took r.block) s.free s.free refl refl))
    step_turns s' (Own t d) r =
        let x = is_there setting s parts t r.worker k.agree r.at.is in
        subst (Turned free) (sym (r.change ∙ ap (λ w. with_worker s t (after_own w d)) (sym x.1.1)))
        (alone t x.0 x.1.0 (Owned d) tt (subst IsFree (sym x.1.1) r.free, ap (λ w. has_open_work w d) x.1.1 ∙ r.work) tt refl refl)
    step_turns s' (OwnLarge t) r =
        let x = is_there setting s parts t r.worker k.agree r.at.is in
        subst (Turned free) (sym (r.change ∙ ap (λ w. with_worker s t (after_own_large w)) (sym x.1.1)))
        (alone t x.0 x.1.0 OwnedLarge tt (subst IsFree (sym x.1.1) r.free, λ e. r.work (ap (λ (w : Worker). w.large) (sym x.1.1) ∙ e)) tt refl refl)
    step_turns s' (Idle t) r = subst (Turned free) (sym r.change) (idly (record s { idle = set s.idle t true }) refl refl refl refl refl)
    step_turns s' (Wake t) r = subst (Turned free) (sym r.change) (idly (record s { idle = set s.idle t false }) refl refl refl refl refl)
    step_turns s' (End t) r = subst (Turned free) (sym r.change) (idly (record s { ended = set s.ended t true }) refl refl refl refl refl)

  pub run_turns : (free : List ℕ) {s s' : System} {events : List Event} → steps.Run setting s events s' → (parts : List Part) → Turning free s parts → Turned free s'
  run_turns free steps.stay parts k = (parts, k)
  run_turns free {s = s} (steps.go {mid = m} {event = event} e rest) parts k = let n = step_turns free s parts k m event e in run_turns free rest n.0 n.1
