-- In each state in which some worker hasn't ended, an event is lawful.
use Rattle.std.proofs.Common.{◌≡◌, ◌≢◌, ℕ, zero, suc, ◌+◌, ◌<◌, ◌≤◌, Bool, true, false, List, [], ◌∷◌, Option, Some, None, refl, sym, ap, subst, ◌∙◌, length, arith, true≢false, is_some, cond, count_by}
use Rattle.std.proofs.lemmas.List.Sums.{sum_by-cons}
use Rattle.std.specs.Prelude.{slice_get, IsSome}
use Rattle.std.specs.Option.{option_map, option_map_or}
use Rattle.workers.specs.Block.{Block}
use Rattle.workers.specs.Setting.{Setting}
use Rattle.workers.specs.Worker.{Worker, Proposal, Hand, Nothing, Open, Holding, HoldingLarge, current_object}
use Rattle.workers.specs.WorkerSteps.{slot_of_starts, current_slot, CanLook, CanScan, IsFree, IsOutOfWork, has_open_work}
use Rattle.workers.specs.System.{System, Event, End, idle_count}
use Rattle.workers.specs.Steps.{IsAwake}
use Rattle.workers.specs.Lawful.{AllEnded, MayAct, IsLawful, race_or, look_or, scan_or, export_or, own_or, large_or, take_or, is_open, lowest_open, next_of_worker, next_of_one, lowest_unset, queue_at, next_from, next_lawful, next_alone, IsNext}
use Rattle.workers.proofs.Lists.{at, none-some, get-lt, get-some}

-- as many queues and flags as workers, and all are idle where one ended
pub record Shaped (s : System) : Type 0 where
  pub queues : length s.queues ≡ length s.workers
  pub exported : length s.exported ≡ length s.workers
  pub idle : length s.idle ≡ length s.workers
  pub ended : length s.ended ≡ length s.workers
  pub all_idle : (t : ℕ) → slice_get s.ended t ≡ Some true → idle_count s ≡ length s.workers

some-none : {A : Type 0} {x : A} → Some x ≡ None → ⊥
some-none e = cc

cons-nil : {A : Type 0} {x : A} {xs : List A} → x ∷ xs ≡ [] → ⊥
cons-nil e = cc

true-false : {A : Type 0} → Some true ≡ Some false → A
true-false e = absurd (let q : true ≡ false = cc in true≢false q)

-- flags
pub count-true : (bs : List Bool) → count_by (λ b. b) (true ∷ bs) ≡ count_by (λ b. b) bs + 1
count-true bs = let h : count_by (λ b. b) (true ∷ bs) ≡ 1 + count_by (λ b. b) bs = sum_by-cons (λ b. cond b 1 0) true bs in omega arith

pub count-false : (bs : List Bool) → count_by (λ b. b) (false ∷ bs) ≡ count_by (λ b. b) bs
count-false bs = let h : count_by (λ b. b) (false ∷ bs) ≡ 0 + count_by (λ b. b) bs = sum_by-cons (λ b. cond b 1 0) false bs in omega arith

pub count-le : (bs : List Bool) → count_by (λ b. b) bs ≤ length bs
count-le [] = omega arith
count-le (true ∷ bs) = let h = count-le bs in let q = count-true bs in omega arith
count-le (false ∷ bs) = let h = count-le bs in let q = count-false bs in omega arith

pub all-set : (bs : List Bool) (t : ℕ) → count_by (λ b. b) bs ≡ length bs → slice_get bs t ≡ Some false → ⊥
all-set [] t e g = none-some g
all-set (true ∷ bs) zero e g = true-false g
all-set (true ∷ bs) (suc t) e g = let q = count-true bs in all-set bs t (omega arith) g
all-set (false ∷ bs) t e g = let h = count-le bs in let q = count-false bs in absurd (omega arith)

pub unset-none : (k : ℕ) (bs : List Bool) → lowest_unset k bs ≡ None → count_by (λ b. b) bs ≡ length bs
unset-none k [] e = refl
unset-none k (false ∷ bs) e = absurd (some-none e)
unset-none k (true ∷ bs) e = let h : count_by (λ b. b) bs ≡ length bs = unset-none (k + 1) bs e in let q = count-true bs in omega arith

unset-some : (k t : ℕ) (bs : List Bool) → lowest_unset k bs ≡ Some t → (i : ℕ) × ((t ≡ k + i) × (slice_get bs i ≡ Some false))
unset-some k t [] e = absurd (none-some e)
unset-some k t (false ∷ bs) e = let q : k ≡ t = cc in (0, (omega arith, refl))
unset-some k t (true ∷ bs) e = let h = unset-some (k + 1) t bs e in let p : t ≡ k + 1 + h.0 = h.1.0 in (suc h.0, (omega arith, h.1.1))

pub unset-at : (t : ℕ) (bs : List Bool) → lowest_unset 0 bs ≡ Some t → slice_get bs t ≡ Some false
unset-at t bs e = let h = unset-some 0 t bs e in let p : t ≡ 0 + h.0 = h.1.0 in let q : h.0 ≡ t = omega arith in subst (λ i. slice_get bs i ≡ Some false) q h.1.1

pub set-there : (bs : List Bool) (t : ℕ) → count_by (λ b. b) bs ≡ length bs → t < length bs → slice_get bs t ≡ Some true
set-there [] t e l = absurd (omega arith)
set-there (false ∷ bs) t e l = let h = count-le bs in let q = count-false bs in absurd (omega arith)
set-there (true ∷ bs) zero e l = refl
set-there (true ∷ bs) (suc t) e l = let q = count-true bs in set-there bs t (omega arith) (omega arith)

none-unset : (k : ℕ) (bs : List Bool) → ((t : ℕ) → t < length bs → slice_get bs t ≡ Some true) → lowest_unset k bs ≡ None
none-unset k [] h = refl
none-unset k (false ∷ bs) h = true-false (sym (h 0 (omega arith)))
none-unset k (true ∷ bs) h = none-unset (k + 1) bs (λ t l. h (suc t) (omega arith))

-- open work
open-some : (k d : ℕ) (os : List (Option Block)) → lowest_open k os ≡ Some d → (i : ℕ) × ((d ≡ k + i) × (is_open (at os i) ≡ true))
open-some k d [] e = absurd (none-some e)
open-some k d (o ∷ os) e = go (is_open o) refl e (open-some (k + 1) d os)
  where
    go : (b : Bool) → is_open o ≡ b → cond b (Some k) (lowest_open (k + 1) os) ≡ Some d → (lowest_open (k + 1) os ≡ Some d → (i : ℕ) × ((d ≡ k + 1 + i) × (is_open (at os i) ≡ true))) → (i : ℕ) × ((d ≡ k + i) × (is_open (at (o ∷ os) i) ≡ true))
    go true p q rest = let r : k ≡ d = cc in (0, (omega arith, p))
    go false p q rest = let h = rest q in let r : d ≡ k + 1 + h.0 = h.1.0 in (suc h.0, (omega arith, h.1.1))

pub open-none : (k : ℕ) (os : List (Option Block)) → lowest_open k os ≡ None → (d : ℕ) → is_open (at os d) ≡ false
open-none k [] e = λ d. refl
open-none k (o ∷ os) e = go (is_open o) refl e (open-none (k + 1) os)
  where
    go : (b : Bool) → is_open o ≡ b → cond b (Some k) (lowest_open (k + 1) os) ≡ None → (lowest_open (k + 1) os ≡ None → (d : ℕ) → is_open (at os d) ≡ false) → (d : ℕ) → is_open (at (o ∷ os) d) ≡ false
    go true p q rest d = absurd (some-none q)
    go false p q rest zero = p
    go false p q rest (suc d) = rest q d

module _ (setting : Setting) (s : System) (t : ℕ) (w : Worker) (here : IsAwake s t w) where
  abbrev Fits : Event → Type 0
  Fits = IsLawful setting s

  pub may : (P : Worker → Type 0) → P w → MayAct P s t
  may P p = record { worker = w; at = here; can = p }

  pub race_fits : (o : Option Proposal) → w.proposal ≡ o → (rest : Event) → (w.proposal ≡ None → Fits rest) → Fits (race_or t o rest)
  race_fits None e rest h = h e
  race_fits (Some p) e rest h = may (λ x. IsSome x.proposal) (ap is_some e)

  pub look_fits : (o : Option (Option ℕ)) → current_slot setting w ≡ o → w.proposal ≡ None → (rest : Event) → (current_slot setting w ≡ None → Fits rest) → Fits (look_or t o rest)
  look_fits None e n rest h = h e
  look_fits (Some o) e n rest h = may (CanLook setting) (record { no_proposal = n; slot = ap is_some e })

  pub scan_fits : (hand : Hand) → w.hand ≡ hand → w.proposal ≡ None → current_slot setting w ≡ None → (rest : Event) → (w.hand ≡ Nothing → Fits rest) → Fits (scan_or t hand rest)
  scan_fits Nothing e n c rest h = h e
  scan_fits (Open d) e n c rest h = may (CanScan setting) (record { no_proposal = n; hand = λ q. (let r : Open d ≡ Nothing = sym e ∙ q in absurd cc); no_slot = c })
  scan_fits (Holding b) e n c rest h = may (CanScan setting) (record { no_proposal = n; hand = λ q. (let r : Holding b ≡ Nothing = sym e ∙ q in absurd cc); no_slot = c })
  scan_fits (HoldingLarge m) e n c rest h = may (CanScan setting) (record { no_proposal = n; hand = λ q. (let r : HoldingLarge m ≡ Nothing = sym e ∙ q in absurd cc); no_slot = c })

  pub export_fits : (bs : List Block) → w.aside ≡ bs → (rest : Event) → (w.aside ≡ [] → Fits rest) → Fits (export_or t bs rest)
  export_fits [] e rest h = h e
  export_fits (b ∷ bs) e rest h = may (λ x. x.aside ≢ []) (λ q. cons-nil (sym e ∙ q))

  own_fits : IsFree w → (o : Option ℕ) → lowest_open 0 w.allocation ≡ o → (rest : Event) → (((d : ℕ) → has_open_work w d ≡ false) → Fits rest) → Fits (own_or t o rest)
  own_fits f None e rest h = h (open-none 0 w.allocation e)
  own_fits f (Some d) e rest h =
      let i = open-some 0 d w.allocation e in
      let p : d ≡ 0 + i.0 = i.1.0 in
      let q : i.0 ≡ d = omega arith in
      may (λ x. IsFree x × (has_open_work x d ≡ true)) (f, subst (λ j. has_open_work w j ≡ true) q i.1.1)

  pub large_fits : IsFree w → (ns : List ℕ) → w.large ≡ ns → (rest : Event) → (w.large ≡ [] → Fits rest) → Fits (large_or t ns rest)
  large_fits f [] e rest h = h e
  large_fits f (n ∷ ns) e rest h = may (λ x. IsFree x × (x.large ≢ [])) (f, λ q. cons-nil (sym e ∙ q))

  pub take_fits : IsFree w → (bs : List Block) → slice_get s.queues t ≡ Some bs → (rest : Event) → (slice_get s.queues t ≡ Some [] → Fits rest) → Fits (take_or t bs rest)
  take_fits f [] e rest h = h e
  take_fits f (b ∷ bs) e rest h = (may IsFree f, record { block = b; rest = bs; front = e })

  -- no slot: the start list is finished
  no_starts : (ts : List ℕ) (o : Option (ℕ × ℕ)) → slot_of_starts setting o w.fields ts ≡ None → ts ≡ []
  no_starts [] o e = refl
  no_starts (x ∷ ts) o e = absurd (some-none e)

  pub free : w.proposal ≡ None → current_slot setting w ≡ None → w.hand ≡ Nothing → IsFree w
  free n c h = record { no_proposal = n; no_starts = no_starts w.starts (current_object w) c; no_hand = h }

  module _ (queue : List Block) (own : slice_get s.queues t ≡ Some queue) where
    pub worker_next : IsLawful setting s (next_of_worker setting t w queue)
    worker_next =
        race_fits w.proposal refl _ (λ n. look_fits (current_slot setting w) refl n _ (λ c. scan_fits w.hand refl n c _ (λ h. export_fits w.aside refl _ (λ a.
        own_fits (free n c h) (lowest_open 0 w.allocation) refl _ (λ o. large_fits (free n c h) w.large refl _ (λ l. take_fits (free n c h) queue own _ (λ q.
        (may IsOutOfWork (record { free = free n c h; no_aside = a; no_large = l; all_scanned = o }), q))))))))

    pub one_next : IsLawful setting s (next_of_one setting t w queue)
    one_next =
        race_fits w.proposal refl _ (λ n. look_fits (current_slot setting w) refl n _ (λ c. scan_fits w.hand refl n c _ (λ h. export_fits w.aside refl _ (λ a.
        take_fits (free n c h) queue own _ (λ q. own_fits (free n c h) (lowest_open 0 w.allocation) refl _ (λ o. large_fits (free n c h) w.large refl _ (λ l.
        (may IsOutOfWork (record { free = free n c h; no_aside = a; no_large = l; all_scanned = o }), q))))))))

module _ (setting : Setting) (s : System) (k : Shaped s) where
  next_fits : (next : ℕ → Worker → List Block → Event) → ((t : ℕ) (w : Worker) → IsAwake s t w → (q : List Block) → slice_get s.queues t ≡ Some q → IsLawful setting s (next t w q))
      → (o : Option ℕ) → lowest_unset 0 s.idle ≡ o → IsNext setting s (next_from s next o)
  next_fits next h (Some t) e =
      let awake = unset-at t s.idle e in
      let a : t < length s.idle = get-lt s.idle t false awake in
      let b = k.idle in
      let c = k.queues in
      let w = get-some s.workers t (omega arith) in
      let q = get-some s.queues t (omega arith) in
      subst (λ o. IsNext setting s (option_map (λ x. next t x (queue_at s t)) o)) (sym w.1)
      (subst (λ o. IsLawful setting s (next t w.0 (option_map_or (λ x. x) o []))) (sym q.1) (h t w.0 (record { is = w.1; awake = awake }) q.0 q.1))
  next_fits next h None e = go (lowest_unset 0 s.ended) refl
    where
      all : idle_count s ≡ length s.idle
      all = unset-none 0 s.idle e

      go : (o : Option ℕ) → lowest_unset 0 s.ended ≡ o → IsNext setting s (option_map End o)
      go None g = λ t l. (let a = k.ended in set-there s.ended t (unset-none 0 s.ended g) (omega arith))
      go (Some t) g =
          let there = unset-at t s.ended g in
          let a : t < length s.ended = get-lt s.ended t false there in
          let b = k.ended in
          let c = k.idle in
          record { is_idle = set-there s.idle t all (omega arith); not_ended = there; all_idle = all ∙ k.idle }

  -- what next_lawful gives is lawful; where it gives nothing, all ended
  pub next_is_lawful : IsNext setting s (next_lawful setting s)
  next_is_lawful = next_fits (next_of_worker setting) (λ t w a q e. worker_next setting s t w a q e) (lowest_unset 0 s.idle) refl

  pub next_alone_is_lawful : IsNext setting s (next_alone setting s)
  next_alone_is_lawful = next_fits (next_of_one setting) (λ t w a q e. one_next setting s t w a q e) (lowest_unset 0 s.idle) refl

  -- and nothing comes where all ended
  pub ended_none : AllEnded s → (next_lawful setting s ≡ None) × (next_alone setting s ≡ None)
  ended_none all =
      (ap (next_from s (next_of_worker setting)) idle ∙ ap (option_map End) ended, ap (next_from s (next_of_one setting)) idle ∙ ap (option_map End) ended)
    where
      ended : lowest_unset 0 s.ended ≡ None
      ended = none-unset 0 s.ended (λ t l. (let a = k.ended in all t (omega arith)))

      idle : lowest_unset 0 s.idle ≡ None
      idle = none-unset 0 s.idle (λ t l. (let a = k.idle in let e = k.all_idle t (all t (omega arith)) in set-there s.idle t (e ∙ sym a) l))

  -- where a worker hasn't ended, some event is lawful
  pub progress : (t : ℕ) → slice_get s.ended t ≡ Some false → (event : Event) × ((next_lawful setting s ≡ Some event) × IsLawful setting s event)
  progress t e = go (next_lawful setting s) refl next_is_lawful
    where
      go : (o : Option Event) → next_lawful setting s ≡ o → IsNext setting s o → (event : Event) × ((o ≡ Some event) × IsLawful setting s event)
      go (Some event) p h = (event, (refl, h))
      go None p h = let a : t < length s.ended = get-lt s.ended t false e in let b = k.ended in true-false (sym (h t (omega arith)) ∙ e)
