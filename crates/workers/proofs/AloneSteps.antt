-- A run of one worker by next_alone scans in order.
use Rattle.std.proofs.Common.{◌≡◌, ℕ, zero, suc, ◌<◌, ◌≤◌, Bool, true, false, not, List, [], ◌∷◌, ◌++◌, Option, Some, None, refl, sym, ap, subst, ◌∙◌, set, cond, length, replicate, arith, filter, true≢false, nat_eq, is_some, Contains}
use Rattle.std.proofs.lemmas.List.{append-nil}
use Rattle.std.specs.Prelude.{slice_get, if◌then◌else◌}
use Rattle.std.specs.Bool.{OnTrue}
use Rattle.std.specs.Option.{option_map, option_map_or, option_and_then}
use Rattle.workers.specs.Block.{Block, has_unscanned, updated}
use Rattle.workers.specs.Setting.{Setting}
use Rattle.workers.specs.Worker.{Worker, Proposal, Hand, Nothing, Open, Holding, HoldingLarge}
use Rattle.workers.specs.WorkerSteps.{current_slot, cell_wanted, draw_wanted, after_look, after_race, after_scan, after_aside, after_take, after_own, after_own_large, IsOutOfWork}
use Rattle.workers.specs.WorkerRun.{WorkerRun, proposed_name}
use Rattle.workers.specs.System.{System, Event, Look, Race, Scan, Export, Take, Own, OwnLarge, Idle, Wake, End, cell_of, opening, opening_worker}
use Rattle.workers.specs.Steps.{Step}
use Rattle.workers.specs.Steps as steps
use Rattle.workers.specs.Total.{one_if, times}
use Rattle.workers.specs.Joined.{Part}
use Rattle.workers.specs.Lawful.{race_or, look_or, scan_or, export_or, take_or, next_of_one, lowest_unset, queue_at, next_from, next_alone, AllEnded}
use Rattle.workers.specs.Finish.{Stepped, stay, go, IsReached}
use Rattle.workers.specs.Alone.{TellsSmall, ScannedInOrder}
use Rattle.workers.proofs.Lists.{Each-at, at, at-none, none-OnSome, none-some, get-lt}
use Rattle.workers.proofs.Starts.{opens, length-replicate-none}
use Rattle.workers.proofs.Moves.{Fit, moves_fit}
use Rattle.workers.proofs.Acts.{ProposalFit, run_moves}
use Rattle.workers.proofs.OnePart.{opening-fit}
use Rattle.workers.proofs.SystemParts.{is_there, member-times}
use Rattle.workers.proofs.SystemRun.{Begun}
use Rattle.workers.proofs.Reached.{reached_left}
use Rattle.workers.proofs.RunBrings.{Parts, parts_of, step_parts}
use Rattle.workers.proofs.AloneLists.{waiting, open_waiting, in_hand, large_in_hand, open-none}
use Rattle.workers.proofs.AloneOrder.{Orders, OpenBlock, pending, nothing-open, look_orders, race_orders}
use Rattle.workers.proofs.AloneScans.{scan_orders, export_orders, take_orders, own_orders, own_large_orders}

-- lists of one
module _ {A : Type 0} where
  some_same : {x y : A} → Some x ≡ Some y → x ≡ y
  some_same e = cc

  only_at : (xs : List A) (x y : A) (t : ℕ) → xs ≡ x ∷ [] → slice_get xs t ≡ Some y → (t ≡ 0) × (x ≡ y)
  only_at xs x y t e g = go t (ap (λ zs. slice_get zs t) (sym e) ∙ g)
    where
      go : (t : ℕ) → slice_get (x ∷ []) t ≡ Some y → (t ≡ 0) × (x ≡ y)
      go zero g = (refl, some_same g)
      go (suc t) g = absurd (none-some g)

  set_only : (xs : List A) (x y : A) (t : ℕ) → xs ≡ x ∷ [] → t ≡ 0 → set xs t y ≡ y ∷ []
  set_only xs x y t e z = ap (λ i. set xs i y) z ∙ ap (λ zs. set zs 0 y) e

  updated_only : (f : A → A) (xs : List A) (x : A) (t : ℕ) → xs ≡ x ∷ [] → t ≡ 0 → updated f xs t ≡ f x ∷ []
  updated_only f xs x t e z = ap (λ i. updated f xs i) z ∙ ap (λ zs. updated f zs 0) e

-- it takes its allocation block in hand only where nothing is aside or queued
clear : (t v d : ℕ) (p : Option Proposal) (slot : Option (Option ℕ)) (hand : Hand) (aside queue : List Block) (rest : Event)
    → race_or t p (look_or t slot (scan_or t hand (export_or t aside (take_or t queue rest)))) ≡ Own v d → (aside ≡ []) × (queue ≡ [])
clear t v d (Some p) slot hand aside queue rest e = absurd (cc)
clear t v d None (Some o) hand aside queue rest e = absurd (cc)
clear t v d None None (Open x) aside queue rest e = absurd (cc)
clear t v d None None (Holding b) aside queue rest e = absurd (cc)
clear t v d None None (HoldingLarge n) aside queue rest e = absurd (cc)
clear t v d None None Nothing (b ∷ bs) queue rest e = absurd (cc)
clear t v d None None Nothing [] (b ∷ bs) rest e = absurd (cc)
clear t v d None None Nothing [] [] rest e = (refl, refl)

module _ (setting : Setting) (d : ℕ) (slots free : List ℕ) (small : ℕ → Bool) (tells : TellsSmall setting free small) (room : setting.block_words ≤ 65536) where
  abbrev Ordered : Worker → List Block → Type 0
  Ordered = Orders setting free small tells room

  -- a state with one worker, in order
  record InOrder (s : System) : Type 0 where
    pub parts : Parts setting d 1 slots free s
    pub worker : Worker
    pub queue : List Block
    pub is_worker : s.workers ≡ worker ∷ []
    pub is_queue : s.queues ≡ queue ∷ []
    pub orders : Ordered worker queue

  fits : (s : System) → Parts setting d 1 slots free s → (t : ℕ) (w : Worker) → slice_get s.workers t ≡ Some w → Fit w × ProposalFit setting w w.proposal
  fits s k t w e =
      let y = is_there setting s k.parts t w k.held.agree e in
      let b = Each-at (Begun setting) k.parts t y.0 y.1.0 k.held.begun in
      let r = Each-at (λ (p : Part). WorkerRun setting p.start p.final p.history) k.parts t y.0 y.1.0 k.held.agree.runs in
      let f = opening-fit y.0.start b.opening in
      let m = run_moves setting r f b.room b.opening.no_proposal in
      subst (λ x. Fit x × ProposalFit setting x x.proposal) y.1.1 (moves_fit setting m.moves f, m.proposal)

  acted : (s s' : System) (k : InOrder s) → Parts setting d 1 slots free s' → (t : ℕ) (w : Worker) → slice_get s.workers t ≡ Some w → (w' : Worker) (q' : List Block)
      → s'.workers ≡ set s.workers t w' → s'.queues ≡ q' ∷ [] → (Ordered w k.queue → Ordered w' q') → InOrder s'
  acted s s' k parts t w e w' q' ws qs f =
      let o = only_at s.workers k.worker w t k.is_worker e in
      record { parts = parts; worker = w'; queue = q'; is_worker = ws ∙ set_only s.workers k.worker w' t k.is_worker o.0; is_queue = qs; orders = f (subst (λ x. Ordered x k.queue) o.1 k.orders) }

  rested : (s s' : System) (k : InOrder s) → Parts setting d 1 slots free s' → s'.workers ≡ s.workers → s'.queues ≡ s.queues → InOrder s'
  rested s s' k parts ws qs = record { parts = parts; worker = k.worker; queue = k.queue; is_worker = ws ∙ k.is_worker; is_queue = qs ∙ k.is_queue; orders = k.orders }

  own_clear : (s : System) (k : InOrder s) (t e : ℕ) → next_alone setting s ≡ Some (Own t e) → (k.worker.aside ≡ []) × (k.queue ≡ [])
  own_clear s k t e n = on_idle (lowest_unset 0 s.idle) n
    where
      on_worker : (v : ℕ) (o : Option Worker) → slice_get s.workers v ≡ o → option_map (λ w. next_of_one setting v w (queue_at s v)) o ≡ Some (Own t e) → (k.worker.aside ≡ []) × (k.queue ≡ [])
      on_worker v None g m = absurd (none-some m)
      on_worker v (Some w) g m =
          let o = only_at s.workers k.worker w v k.is_worker g in
          let c = clear v t e w.proposal (current_slot setting w) w.hand w.aside (queue_at s v) _ (some_same m) in
          let q : queue_at s v ≡ k.queue = ap (queue_at s) o.0 ∙ ap (λ qs. option_map_or (λ q. q) (slice_get qs 0) []) k.is_queue in
          (ap (λ (x : Worker). x.aside) o.1 ∙ c.0, sym q ∙ c.1)

      on_idle : (o : Option ℕ) → next_from s (next_of_one setting) o ≡ Some (Own t e) → (k.worker.aside ≡ []) × (k.queue ≡ [])
      on_idle (Some v) m = on_worker v (slice_get s.workers v) refl m
      on_idle None m = on_ended (lowest_unset 0 s.ended) m
        where
          on_ended : (o : Option ℕ) → option_map End o ≡ Some (Own t e) → (k.worker.aside ≡ []) × (k.queue ≡ [])
          on_ended None m = absurd (none-some m)
          on_ended (Some v) m = absurd (cc)

  step_in_order : (s s' : System) (event : Event) → next_alone setting s ≡ Some event → Step setting s event s' → InOrder s → InOrder s'
  step_in_order s s' (Look t) n r k =
      let cell : Option ℕ = cell_of s (cell_wanted setting r.worker) in
      let drawn : draw_wanted setting r.worker (cell_of s (cell_wanted setting r.worker)) ≡ true → 0 < times r.number free =
      λ e. (let c : Contains s.free r.number = subst (λ b. OnTrue b (Contains s.free r.number)) e r.drawn in
      let l : 0 < times r.number s.free = member-times s.free r.number c.0 c.1 c.2 in
      let a = k.parts.drawn (λ x. one_if (nat_eq x r.number)) in
      omega arith) in
      acted s s' k (step_parts setting d 1 slots free s s' (Look t) r k.parts) t r.worker r.at.is (after_look setting r.worker (cell_of s (cell_wanted setting r.worker)) r.number) k.queue
      (ap (λ (z : System). z.workers) r.change) (ap (λ (z : System). z.queues) r.change ∙ k.is_queue)
      (look_orders setting free small tells room r.worker k.queue (cell_of s (cell_wanted setting r.worker)) r.number (fits s k.parts t r.worker r.at.is).0 drawn)
  step_in_order s s' (Race t) n r k =
      acted s s' k (step_parts setting d 1 slots free s s' (Race t) r k.parts) t r.worker r.at.is (after_race r.worker (cell_of s (Some (proposed_name r.proposal)))) k.queue
      (ap (λ (z : System). z.workers) r.change) (ap (λ (z : System). z.queues) r.change ∙ k.is_queue)
      (race_orders setting free small tells room r.worker k.queue (cell_of s (Some (proposed_name r.proposal))) (fits s k.parts t r.worker r.at.is).1)
  step_in_order s s' (Scan t) n r k =
      acted s s' k (step_parts setting d 1 slots free s s' (Scan t) r k.parts) t r.worker r.at.is (after_scan r.worker) k.queue
      (ap (λ (z : System). z.workers) r.change) (ap (λ (z : System). z.queues) r.change ∙ k.is_queue)
      (scan_orders setting free small tells room r.worker k.queue (fits s k.parts t r.worker r.at.is).0 r.can.hand)
  step_in_order s s' (Export t) n r k =
      let x : Block = record r.block { sent = Some (t, length r.sent) } in
      acted s s' k (step_parts setting d 1 slots free s s' (Export t) r k.parts) t r.worker r.at.is (after_aside r.worker) (k.queue ++ x ∷ [])
      (ap (λ (z : System). z.workers) r.change)
      (ap (λ (z : System). z.queues) r.change ∙ updated_only (λ q. q ++ x ∷ []) s.queues k.queue t k.is_queue (only_at s.workers k.worker r.worker t k.is_worker r.at.is).0)
      (export_orders setting free small tells room r.worker k.queue r.block r.rest (Some (t, length r.sent)) r.oldest)
  step_in_order s s' (Take t u) n r k =
      let o = only_at s.queues k.queue (r.block ∷ r.rest) u k.is_queue r.front in
      acted s s' k (step_parts setting d 1 slots free s s' (Take t u) r k.parts) t r.worker r.at.is (after_take r.worker r.block) r.rest
      (ap (λ (z : System). z.workers) r.change)
      (ap (λ (z : System). z.queues) r.change ∙ set_only s.queues k.queue r.rest u k.is_queue o.0)
      (λ h. take_orders setting free small tells room r.worker r.block r.rest r.free.no_hand (subst (Ordered r.worker) o.1 h))
  step_in_order s s' (Own t e) n r k =
      let c = own_clear s k t e n in
      let o = only_at s.workers k.worker r.worker t k.is_worker r.at.is in
      acted s s' k (step_parts setting d 1 slots free s s' (Own t e) r k.parts) t r.worker r.at.is (after_own r.worker e) k.queue
      (ap (λ (z : System). z.workers) r.change) (ap (λ (z : System). z.queues) r.change ∙ k.is_queue)
      (own_orders setting free small tells room r.worker k.queue e r.free.no_hand c.1 (ap (λ (x : Worker). x.aside) (sym o.1) ∙ c.0))
  step_in_order s s' (OwnLarge t) n r k =
      acted s s' k (step_parts setting d 1 slots free s s' (OwnLarge t) r k.parts) t r.worker r.at.is (after_own_large r.worker) k.queue
      (ap (λ (z : System). z.workers) r.change) (ap (λ (z : System). z.queues) r.change ∙ k.is_queue)
      (own_large_orders setting free small tells room r.worker k.queue r.free.no_hand)
  step_in_order s s' (Idle t) n r k = rested s s' k (step_parts setting d 1 slots free s s' (Idle t) r k.parts) (ap (λ (z : System). z.workers) r.change) (ap (λ (z : System). z.queues) r.change)
  step_in_order s s' (Wake t) n r k = rested s s' k (step_parts setting d 1 slots free s s' (Wake t) r k.parts) (ap (λ (z : System). z.workers) r.change) (ap (λ (z : System). z.queues) r.change)
  step_in_order s s' (End t) n r k = rested s s' k (step_parts setting d 1 slots free s s' (End t) r k.parts) (ap (λ (z : System). z.workers) r.change) (ap (λ (z : System). z.queues) r.change)

  stepped_in_order : {s last : System} {count : ℕ} → Stepped setting (next_alone setting) s count last → InOrder s → InOrder last
  stepped_in_order stay k = k
  stepped_in_order {s = s} (go {mid = mid} {event = event} e r rest) k = stepped_in_order rest (step_in_order s mid event e r k)

  opening_in_order : d ≤ 1 → Parts setting d 1 slots free (opening d 1 slots free) → InOrder (opening d 1 slots free)
  opening_in_order l parts =
      let o = opens d 1 slots 0 in
      let n : length (replicate {A = Option Block} d None) ≡ d = length-replicate-none d in
      record {
        parts = parts;
        worker = opening_worker d 1 slots 0;
        queue = [];
        is_worker = refl;
        is_queue = refl;
        orders = record {
          one = omega arith;
          blocks = none-OnSome (OpenBlock free) (replicate d None) o.no_allocation;
          first = λ e p. absurd (nothing-open p);
          small_ones = open-none (replicate d None) (λ e b g. absurd (none-some (sym (at-none (replicate d None) o.no_allocation e) ∙ g)));
          large_ones = refl;
        };
      }

  -- where nothing is left
  done_in_order : (w : Worker) (q : List Block) → Ordered w q → IsOutOfWork w → q ≡ [] → ScannedInOrder small w
  done_in_order w q h out none =
      record {
        small_ones = sym (append-nil (filter small w.scanned)) ∙ ap (λ x. filter small w.scanned ++ x) (sym nothing) ∙ h.small_ones;
        large_ones = sym (append-nil (filter (λ p. not (small p)) w.scanned)) ∙ ap (λ x. filter (λ p. not (small p)) w.scanned ++ x) (sym (ap (λ x. large_in_hand x ++ w.large) out.free.no_hand ∙ out.no_large)) ∙ h.large_ones;
      }
    where
      scanned : (e : ℕ) (b : Block) → at w.allocation e ≡ Some b → has_unscanned b ≡ false
      scanned e b g = go (has_unscanned b) refl (sym (ap (λ o. is_some (option_and_then (λ x. if has_unscanned x then Some x else None) o)) g) ∙ out.all_scanned e)
        where
          go : (u : Bool) → has_unscanned b ≡ u → is_some (cond u (Some b) None) ≡ false → has_unscanned b ≡ false
          go true y z = absurd (true≢false z)
          go false y z = y

      nothing : pending w q ≡ []
      nothing =
          ap (λ x. in_hand x ++ (waiting q ++ (waiting w.aside ++ open_waiting w.allocation))) out.free.no_hand
          ∙ ap (λ x. waiting x ++ (waiting w.aside ++ open_waiting w.allocation)) none
          ∙ ap (λ x. waiting x ++ open_waiting w.allocation) out.no_aside
          ∙ open-none w.allocation scanned

  pub ended_in_order : (count : ℕ) (s : System) → IsReached setting d 1 slots free s → Stepped setting (next_alone setting) (opening d 1 slots free) count s → AllEnded s → d ≤ 1 → (w : Worker) → slice_get s.workers 0 ≡ Some w → ScannedInOrder small w
  ended_in_order count s r stepped ended l w here =
      let k = stepped_in_order stepped (opening_in_order l (parts_of setting d 1 slots free (opening d 1 slots free) (record { some = r.some; room = r.room; distinct = r.distinct; events = []; run = steps.stay }))) in
      let left = (reached_left setting d 1 slots free s r 0 (ended 0 (get-lt s.workers 0 w here))).0 in
      let o = only_at s.workers k.worker w 0 k.is_worker here in
      done_in_order w k.queue (subst (λ x. Ordered x k.queue) o.1 k.orders) (left.workers 0 w here).0 (left.queues 0 k.queue (ap (λ qs. slice_get qs 0) k.is_queue))
