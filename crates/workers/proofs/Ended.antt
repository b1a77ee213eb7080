-- The flags of a run: once a worker ended, all are idle, nothing is left, and no event but an end is lawful.
use Rattle.std.proofs.Common.{◌≡◌, ◌≢◌, ℕ, zero, suc, ◌+◌, ◌<◌, Bool, true, false, List, [], ◌∷◌, Option, Some, None, refl, sym, ap, subst, ◌∙◌, ◌⊎◌, inl, inr, length, arith, true≢false, is_some, Contains, count_by, replicate}
use Rattle.std.specs.Prelude.{slice_get}
use Rattle.std.specs.Bool.{OnTrue}
use Rattle.workers.specs.Block.{Block, has_unscanned}
use Rattle.workers.specs.Setting.{Setting}
use Rattle.workers.specs.Worker.{Worker}
use Rattle.workers.specs.WorkerSteps.{cell_wanted, draw_wanted, IsOutOfWork}
use Rattle.workers.specs.System.{System, Event, Look, Race, Scan, Export, Take, Own, OwnLarge, Idle, Wake, End, cell_of, opening, opening_workers}
use Rattle.workers.specs.Steps.{Step, IsAwake, with_worker}
use Rattle.workers.specs.Steps as steps
use Rattle.workers.specs.Joined.{Each, Part, blocks_of}
use Rattle.workers.specs.Lawful.{IsLawful, IsRefused, IsEnd}
use Rattle.workers.specs.Finish.{NothingLeft}
use Rattle.workers.proofs.OnePart.{all_scanned}
use Rattle.workers.specs.WorkerRun.{WorkerRun}
use Rattle.workers.proofs.Lists.{Each-at, none-some, get-lt, get-some, length-set_any, length-updated}
use Rattle.workers.proofs.SystemParts.{is_there}
use Rattle.workers.proofs.SystemQueues.{get-labelled, from-first, labelled, from}
use Rattle.workers.proofs.SystemRun.{Held, Begun}
use Rattle.workers.proofs.Progress.{Shaped, all-set, set-there}

true-false : {A : Type 0} → Some true ≡ Some false → A
true-false e = absurd (let q : true ≡ false = cc in true≢false q)

-- each event leaves the shape
module _ (setting : Setting) where
  kept : (s s' : System) → Shaped s → length s'.workers ≡ length s.workers → length s'.queues ≡ length s.queues → length s'.exported ≡ length s.exported → s'.idle ≡ s.idle → s'.ended ≡ s.ended → Shaped s'
  kept s s' k w q x i e =
      record {
        queues = q ∙ k.queues ∙ sym w;
        exported = x ∙ k.exported ∙ sym w;
        idle = ap length i ∙ k.idle ∙ sym w;
        ended = ap length e ∙ k.ended ∙ sym w;
        all_idle = λ t g. ap (λ bs. count_by (λ b. b) bs) i ∙ k.all_idle t (ap (λ bs. slice_get bs t) (sym e) ∙ g) ∙ sym w;
      }

  pub step_shaped : (s s' : System) (event : Event) → Shaped s → Step setting s event s' → Shaped s'
  step_shaped s s' (Look t) k r = subst Shaped (sym r.change) (kept s _ k (length-set_any s.workers t _) refl refl refl refl)
  step_shaped s s' (Race t) k r = subst Shaped (sym r.change) (kept s _ k (length-set_any s.workers t _) refl refl refl refl)
  step_shaped s s' (Scan t) k r = subst Shaped (sym r.change) (kept s _ k (length-set_any s.workers t _) refl refl refl refl)
  step_shaped s s' (Export t) k r = subst Shaped (sym r.change) (kept s _ k (length-set_any s.workers t _) (length-updated _ s.queues t) (length-updated _ s.exported t) refl refl)
  step_shaped s s' (Take t u) k r = subst Shaped (sym r.change) (kept s _ k (length-set_any s.workers t _) (length-set_any s.queues u _) refl refl refl)
  step_shaped s s' (Own t d) k r = subst Shaped (sym r.change) (kept s _ k (length-set_any s.workers t _) refl refl refl refl)
  step_shaped s s' (OwnLarge t) k r = subst Shaped (sym r.change) (kept s _ k (length-set_any s.workers t _) refl refl refl refl)
  step_shaped s s' (Idle t) k r =
      subst Shaped (sym r.change) (record {
        queues = k.queues;
        exported = k.exported;
        idle = length-set_any s.idle t true ∙ k.idle;
        ended = k.ended;
        all_idle = λ v g. absurd (all-set s.idle t (k.all_idle v g ∙ sym k.idle) r.at.awake);
      })
  step_shaped s s' (Wake t) k r =
      subst Shaped (sym r.change) (record {
        queues = k.queues;
        exported = k.exported;
        idle = length-set_any s.idle t false ∙ k.idle;
        ended = k.ended;
        all_idle = λ v g. (let a = k.all_idle v g in let b = r.some_work in absurd (omega arith));
      })
  step_shaped s s' (End t) k r =
      subst Shaped (sym r.change) (record { queues = k.queues; exported = k.exported; idle = k.idle; ended = length-set_any s.ended t true ∙ k.ended; all_idle = λ v g. r.all_idle })

  pub run_shaped : {s s' : System} {events : List Event} → steps.Run setting s events s' → Shaped s → Shaped s'
  run_shaped steps.stay k = k
  run_shaped {s = s} (steps.go {mid = m} {event = event} e rest) k = run_shaped rest (step_shaped s m event k e)

length-workers : (d n : ℕ) (slots : List ℕ) (t k : ℕ) → length (opening_workers d n slots t k) ≡ k
length-workers d n slots t zero = refl
length-workers d n slots t (suc k) = ap suc (length-workers d n slots (t + 1) k)

length-same : {A : Type 0} (k : ℕ) (x : A) → length (replicate k x) ≡ k
length-same zero x = refl
length-same (suc k) x = ap suc (length-same k x)

unset : (k t : ℕ) → slice_get (replicate k false) t ≡ Some true → ⊥
unset zero t e = none-some e
unset (suc k) zero e = true-false (sym e)
unset (suc k) (suc t) e = unset k t e

pub opening_shaped : (d n : ℕ) (slots free : List ℕ) → Shaped (opening d n slots free)
opening_shaped d n slots free =
    let w = length-workers d n slots 0 n in
    record { queues = length-same n [] ∙ sym w; exported = length-same n [] ∙ sym w; idle = length-same n false ∙ sym w; ended = length-same n false ∙ sym w; all_idle = λ t e. absurd (unset n t e) }

module _ (setting : Setting) (s : System) (shaped : Shaped s) where
  none_awake : (v : ℕ) → slice_get s.ended v ≡ Some true → (t : ℕ) → slice_get s.idle t ≡ Some false → ⊥
  none_awake v e t g = all-set s.idle t (shaped.all_idle v e ∙ sym shaped.idle) g

  -- once one ended, only ends are lawful
  pub only_ends : (v : ℕ) → slice_get s.ended v ≡ Some true → (event : Event) → IsLawful setting s event → IsEnd event
  only_ends v e (Look t) l = none_awake v e t l.at.awake
  only_ends v e (Race t) l = none_awake v e t l.at.awake
  only_ends v e (Scan t) l = none_awake v e t l.at.awake
  only_ends v e (Export t) l = none_awake v e t l.at.awake
  only_ends v e (Take t u) l = none_awake v e t l.0.at.awake
  only_ends v e (Own t d) l = none_awake v e t l.at.awake
  only_ends v e (OwnLarge t) l = none_awake v e t l.at.awake
  only_ends v e (Idle t) l = none_awake v e t l.0.at.awake
  only_ends v e (Wake t) l = let a = shaped.all_idle v e in let b = l.some_work in absurd (omega arith)
  only_ends v e (End t) l = tt

  -- and nothing is pending or unscanned
  pub nothing_left : (parts : List Part) → Held setting s parts → (v : ℕ) → slice_get s.ended v ≡ Some true → NothingLeft s
  nothing_left parts k v e =
      record {
        workers = λ t w g. (
            let p = is_there setting s parts t w k.agree g in
            let o = out t p.0 p.1.0 in
            let b = Each-at (Begun setting) parts t p.0 p.1.0 k.begun in
            let r = Each-at (λ (q : Part). WorkerRun setting q.start q.final q.history) parts t p.0 p.1.0 k.agree.runs in
            (subst IsOutOfWork p.1.1 o.0, subst (λ (x : Worker). Each (λ (c : Block). has_unscanned c ≡ false) (blocks_of x)) p.1.1 (all_scanned setting p.0 (record { opening = b.opening; room = b.room; run = r; out = o.0 }))));
        queues = λ u queue g. (
            let l : u < length s.queues = get-lt s.queues u queue g in
            let m : length s.queues ≡ length parts = k.lanes in
            let p = get-some parts u (omega arith) in
            let o = out u p.0 p.1 in
            let q : Some queue ≡ Some [] = sym g ∙ o.1 in
            cc);
      }
    where
      out : (t : ℕ) (p : Part) → slice_get parts t ≡ Some p → IsOutOfWork p.final × (slice_get s.queues t ≡ Some [])
      out t p g =
          let l : t < length parts = get-lt parts t p g in
          let m : length s.queues ≡ length parts = k.lanes in
          let c = shaped.queues in
          let i = shaped.idle in
          k.idle t p g (set-there s.idle t (shaped.all_idle v e ∙ sym i) (omega arith))

-- an event that comes was lawful
pub step_lawful : (setting : Setting) (s s' : System) (event : Event) → Step setting s event s' → IsLawful setting s event
step_lawful setting s s' (Look t) r = record { worker = r.worker; at = r.at; can = r.can }
step_lawful setting s s' (Race t) r = record { worker = r.worker; at = r.at; can = ap is_some r.proposed }
step_lawful setting s s' (Scan t) r = record { worker = r.worker; at = r.at; can = r.can }
step_lawful setting s s' (Export t) r = record { worker = r.worker; at = r.at; can = λ e. (let q : r.block ∷ r.rest ≡ [] = sym r.oldest ∙ e in absurd cc) }
step_lawful setting s s' (Take t u) r = (record { worker = r.worker; at = r.at; can = r.free }, record { block = r.block; rest = r.rest; front = r.front })
step_lawful setting s s' (Own t d) r = record { worker = r.worker; at = r.at; can = (r.free, r.work) }
step_lawful setting s s' (OwnLarge t) r = record { worker = r.worker; at = r.at; can = (r.free, r.work) }
step_lawful setting s s' (Idle t) r = (record { worker = r.worker; at = r.at; can = r.out }, r.queue)
step_lawful setting s s' (Wake t) r = record { is_idle = r.is_idle; not_ended = r.not_ended; some_work = r.some_work }
step_lawful setting s s' (End t) r = record { is_idle = r.is_idle; not_ended = r.not_ended; all_idle = r.all_idle }

-- a lawful event can come, or it is a look that wants a block where none is free
module _ (setting : Setting) (s : System) (parts : List Part) (shaped : Shaped s) (k : Held setting s parts) where
  abbrev pub Comes : Event → Type 0
  Comes event = ((s' : System) × Step setting s event s') ⊎ IsRefused setting s event

  label : (u : ℕ) (b : Block) (rest : List Block) → slice_get s.queues u ≡ Some (b ∷ rest) → (position : ℕ) × (b.sent ≡ Some (u, position))
  label u b rest e =
      let l : u < length s.queues = get-lt s.queues u (b ∷ rest) e in
      let m : length s.queues ≡ length parts = k.lanes in
      let y = get-some parts u (omega arith) in
      let q = k.queues.queues u y.0 y.1 in
      let z : Some (from q.front (labelled u 0 y.0.history.exported)) ≡ Some (b ∷ rest) = sym q.queue ∙ e in
      let f = from-first q.front (labelled u 0 y.0.history.exported) b rest cc in
      let x = get-labelled u 0 q.front q.front y.0.history.exported b (omega arith) f.0 in
      (q.front, ap (λ (c : Block). c.sent) x.1.1)

  there_is : {A : Type 0} (o : Option A) → is_some o ≡ true → (x : A) × (o ≡ Some x)
  there_is None e = absurd (true≢false (sym e))
  there_is (Some x) e = (x, refl)

  first : (bs : List Block) → bs ≢ [] → (b : Block) × ((rest : List Block) × (bs ≡ b ∷ rest))
  first [] n = absurd (n refl)
  first (b ∷ bs) n = (b, (bs, refl))

  pub lawful_comes : (event : Event) → IsLawful setting s event → Comes event
  lawful_comes (Look t) l = go (draw_wanted setting l.worker (cell_of s (cell_wanted setting l.worker))) s.free refl refl
    where
      go : (b : Bool) (free : List ℕ) → draw_wanted setting l.worker (cell_of s (cell_wanted setting l.worker)) ≡ b → s.free ≡ free → Comes (Look t)
      go false free e f = inl (_, record { worker = l.worker; at = l.at; can = l.can; number = 0; drawn = subst (λ b. OnTrue b (Contains s.free 0)) (sym e) tt; change = refl })
      go true [] e f = inr (record { t = t; worker = l.worker; look = refl; at = l.at; can = l.can; wanted = e; none_free = f })
      go true (x ∷ xs) e f = inl (_, record { worker = l.worker; at = l.at; can = l.can; number = x; drawn = subst (λ b. OnTrue b (Contains s.free x)) (sym e) (subst (λ ys. Contains ys x) (sym f) (0, omega arith, refl)); change = refl })
  lawful_comes (Race t) l = let p = there_is l.worker.proposal l.can in inl (_, record { worker = l.worker; at = l.at; proposal = p.0; proposed = p.1; change = refl })
  lawful_comes (Scan t) l = inl (_, record { worker = l.worker; at = l.at; can = l.can; change = refl })
  lawful_comes (Export t) l =
      let b = first l.worker.aside l.can in
      let a : t < length s.workers = get-lt s.workers t l.worker l.at.is in
      let c = shaped.exported in
      let x = get-some s.exported t (omega arith) in
      inl (_, record { worker = l.worker; at = l.at; block = b.0; rest = b.1.0; oldest = b.1.1; sent = x.0; sent_is = x.1; change = refl })
  lawful_comes (Take t u) l =
      let p = label u l.1.block l.1.rest l.1.front in
      inl (_, record { worker = l.0.worker; at = l.0.at; free = l.0.can; block = l.1.block; rest = l.1.rest; front = l.1.front; position = p.0; labelled = p.1; change = refl })
  lawful_comes (Own t d) l = inl (_, record { worker = l.worker; at = l.at; free = l.can.0; work = l.can.1; change = refl })
  lawful_comes (OwnLarge t) l = inl (_, record { worker = l.worker; at = l.at; free = l.can.0; work = l.can.1; change = refl })
  lawful_comes (Idle t) l = inl (_, record { worker = l.0.worker; at = l.0.at; out = l.0.can; queue = l.1; change = refl })
  lawful_comes (Wake t) l = inl (_, record { is_idle = l.is_idle; not_ended = l.not_ended; some_work = l.some_work; change = refl })
  lawful_comes (End t) l = inl (_, record { is_idle = l.is_idle; not_ended = l.not_ended; all_idle = l.all_idle; change = refl })

  no_step_refused : (s' : System) (event : Event) → IsRefused setting s event → Step setting s event s' → ⊥
  no_step_refused s' event r x = go x'
    where
      look_same : (t : ℕ) → (x y : Worker) → slice_get s.workers t ≡ Some x → slice_get s.workers t ≡ Some y → x ≡ y
      look_same t x y e f = let q : Some x ≡ Some y = sym e ∙ f in cc

      x' : Step setting s (Look r.t) s'
      x' = subst (λ v. Step setting s v s') r.look x

      go : Step setting s (Look r.t) s' → ⊥
      go z =
          let q : z.worker ≡ r.worker = look_same r.t z.worker r.worker z.at.is r.at.is in
          let w : draw_wanted setting z.worker (cell_of s (cell_wanted setting z.worker)) ≡ true = ap (λ v. draw_wanted setting v (cell_of s (cell_wanted setting v))) q ∙ r.wanted in
          let c : Contains s.free z.number = subst (λ b. OnTrue b (Contains s.free z.number)) w z.drawn in
          let d : Contains [] z.number = subst (λ ys. Contains ys z.number) r.none_free c in
          let l : d.0 < 0 = d.1 in
          absurd (omega arith)
