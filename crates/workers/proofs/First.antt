-- What comes next is the first lawful event of the order.
use Rattle.std.proofs.Common.{◌≡◌, ◌≢◌, ℕ, zero, suc, ◌+◌, ◌<◌, Bool, true, false, List, [], ◌∷◌, Option, Some, None, refl, sym, ap, subst, ◌∙◌, inl, inr, length, arith, true≢false, is_some, cond}
use Rattle.std.specs.Prelude.{slice_get, IsSome}
use Rattle.std.specs.Option.{option_map, option_map_or}
use Rattle.workers.specs.Block.{Block}
use Rattle.workers.specs.Setting.{Setting}
use Rattle.workers.specs.Worker.{Worker, Proposal, Hand, Nothing, Open, Holding, HoldingLarge}
use Rattle.workers.specs.WorkerSteps.{current_slot, CanLook, CanScan, IsFree, IsOutOfWork, has_open_work}
use Rattle.workers.specs.System.{System, Event, Look, Race, Scan, Export, Take, Own, OwnLarge, Idle, End}
use Rattle.workers.specs.Steps.{IsAwake}
use Rattle.workers.specs.Lawful.{MayAct, IsLawful, race_or, look_or, scan_or, export_or, own_or, large_or, take_or, is_open, lowest_open, next_of_worker, next_of_one, lowest_unset, queue_at, next_from, next_lawful, next_alone, IsFirst, own_events, order_of_worker, order_of_one, IsChosen}
use Rattle.workers.proofs.Lists.{at, none-some, get-lt, get-some}
use Rattle.workers.proofs.Progress.{Shaped, unset-none, unset-at, set-there, open-none, race_fits, look_fits, scan_fits, export_fits, large_fits, take_fits, free, may}

module _ (setting : Setting) (s : System) (t : ℕ) (w : Worker) (here : IsAwake s t w) where
  abbrev First : List Event → Event → Type 0
  First = IsFirst (IsLawful setting s)

  -- no other worker is at t
  mine : (P : Worker → Type 0) → MayAct P s t → P w
  mine P m = let q : Some m.worker ≡ Some w = sym m.at.is ∙ here.is in let r : m.worker ≡ w = cc in subst P r m.can

  no-some : {A : Type 0} (o : Option A) → o ≡ None → IsSome o → ⊥
  no-some o e i = true≢false (sym i ∙ ap is_some e)

  race_first : (o : Option Proposal) → w.proposal ≡ o → (es : List Event) (rest : Event) → (w.proposal ≡ None → First es rest) → First (Race t ∷ es) (race_or t o rest)
  race_first None e es rest h = inr ((λ m. no-some w.proposal e (mine (λ x. IsSome x.proposal) m)), h e)
  race_first (Some p) e es rest h = inl (race_fits setting s t w here (Some p) e rest (λ n. absurd (none-some (sym n ∙ e))), refl)

  look_first : (o : Option (Option ℕ)) → current_slot setting w ≡ o → w.proposal ≡ None → (es : List Event) (rest : Event) → (current_slot setting w ≡ None → First es rest) → First (Look t ∷ es) (look_or t o rest)
  look_first None e n es rest h = inr ((λ m. (let c = mine (CanLook setting) m in no-some (current_slot setting w) e c.slot)), h e)
  look_first (Some p) e n es rest h = inl (look_fits setting s t w here (Some p) e n rest (λ c. absurd (none-some (sym c ∙ e))), refl)

  scan_first : (hand : Hand) → w.hand ≡ hand → w.proposal ≡ None → current_slot setting w ≡ None → (es : List Event) (rest : Event) → (w.hand ≡ Nothing → First es rest) → First (Scan t ∷ es) (scan_or t hand rest)
  scan_first Nothing e n c es rest h = inr ((λ m. (let x = mine (CanScan setting) m in x.hand e)), h e)
  scan_first (Open d) e n c es rest h = inl (scan_fits setting s t w here (Open d) e n c rest (λ q. (let r : Open d ≡ Nothing = sym e ∙ q in absurd cc)), refl)
  scan_first (Holding b) e n c es rest h = inl (scan_fits setting s t w here (Holding b) e n c rest (λ q. (let r : Holding b ≡ Nothing = sym e ∙ q in absurd cc)), refl)
  scan_first (HoldingLarge m) e n c es rest h = inl (scan_fits setting s t w here (HoldingLarge m) e n c rest (λ q. (let r : HoldingLarge m ≡ Nothing = sym e ∙ q in absurd cc)), refl)

  export_first : (bs : List Block) → w.aside ≡ bs → (es : List Event) (rest : Event) → (w.aside ≡ [] → First es rest) → First (Export t ∷ es) (export_or t bs rest)
  export_first [] e es rest h = inr ((λ m. mine (λ x. x.aside ≢ []) m e), h e)
  export_first (b ∷ bs) e es rest h = inl (export_fits setting s t w here (b ∷ bs) e rest (λ q. (let r : b ∷ bs ≡ [] = sym e ∙ q in absurd cc)), refl)

  large_first : IsFree w → (ns : List ℕ) → w.large ≡ ns → (es : List Event) (rest : Event) → (w.large ≡ [] → First es rest) → First (OwnLarge t ∷ es) (large_or t ns rest)
  large_first f [] e es rest h = inr ((λ m. (mine (λ x. IsFree x × (x.large ≢ [])) m).1 e), h e)
  large_first f (n ∷ ns) e es rest h = inl (large_fits setting s t w here f (n ∷ ns) e rest (λ q. (let r : n ∷ ns ≡ [] = sym e ∙ q in absurd cc)), refl)

  take_first : IsFree w → (bs : List Block) → slice_get s.queues t ≡ Some bs → (es : List Event) (rest : Event) → (slice_get s.queues t ≡ Some [] → First es rest) → First (Take t t ∷ es) (take_or t bs rest)
  take_first f [] e es rest h = inr ((λ m. (let q : Some [] ≡ Some (m.1.block ∷ m.1.rest) = sym e ∙ m.1.front in absurd cc)), h e)
  take_first f (b ∷ bs) e es rest h = inl (take_fits setting s t w here f (b ∷ bs) e rest (λ q. (let r : Some (b ∷ bs) ≡ Some [] = sym e ∙ q in absurd cc)), refl)

  own_first : IsFree w → (es : List Event) (rest : Event) (i : ℕ) (os : List (Option Block)) → ((j : ℕ) → has_open_work w (i + j) ≡ is_open (at os j)) → (lowest_open i os ≡ None → First es rest)
      → First (own_events t i (length os) es) (own_or t (lowest_open i os) rest)
  own_first f es rest i [] k h = h refl
  own_first f es rest i (o ∷ os) k h = go (is_open o) refl (own_first f es rest (i + 1) os (λ j. (let q : i + 1 + j ≡ i + suc j = omega arith in ap (has_open_work w) q ∙ k (suc j)))) h
    where
      here_is : has_open_work w i ≡ is_open o
      here_is = (let q : i ≡ i + 0 = omega arith in ap (has_open_work w) q ∙ k 0)

      go : (b : Bool) → is_open o ≡ b → ((lowest_open (i + 1) os ≡ None → First es rest) → First (own_events t (i + 1) (length os) es) (own_or t (lowest_open (i + 1) os) rest))
          → (cond b (Some i) (lowest_open (i + 1) os) ≡ None → First es rest) → First (Own t i ∷ own_events t (i + 1) (length os) es) (own_or t (cond b (Some i) (lowest_open (i + 1) os)) rest)
      go true p more h = inl (may setting s t w here (λ x. IsFree x × (has_open_work x i ≡ true)) (f, here_is ∙ p), refl)
      go false p more h = inr ((λ m. (let x = mine (λ y. IsFree y × (has_open_work y i ≡ true)) m in true≢false (sym x.1 ∙ here_is ∙ p))), more h)

  module _ (queue : List Block) (own : slice_get s.queues t ≡ Some queue) where
    all_open : (j : ℕ) → has_open_work w (0 + j) ≡ is_open (at w.allocation j)
    all_open j = (let q : 0 + j ≡ j = omega arith in ap (has_open_work w) q)

    out : (f : IsFree w) → w.aside ≡ [] → lowest_open 0 w.allocation ≡ None → w.large ≡ [] → slice_get s.queues t ≡ Some [] → First (Idle t ∷ []) (Idle t)
    out f a o l q = inl ((may setting s t w here IsOutOfWork (record { free = f; no_aside = a; no_large = l; all_scanned = open-none 0 w.allocation o }), q), refl)

    abbrev worker_event5 : Event
    worker_event5 = take_or t queue (Idle t)

    abbrev worker_list5 : List Event
    worker_list5 = Take t t ∷ (Idle t ∷ [])

    abbrev worker_event4 : Event
    worker_event4 = large_or t w.large worker_event5

    abbrev worker_list4 : List Event
    worker_list4 = OwnLarge t ∷ worker_list5

    abbrev worker_event3 : Event
    worker_event3 = own_or t (lowest_open 0 w.allocation) worker_event4

    abbrev worker_list3 : List Event
    worker_list3 = own_events t 0 (length w.allocation) worker_list4

    abbrev worker_event2 : Event
    worker_event2 = export_or t w.aside worker_event3

    abbrev worker_list2 : List Event
    worker_list2 = Export t ∷ worker_list3

    abbrev worker_event1 : Event
    worker_event1 = scan_or t w.hand worker_event2

    abbrev worker_list1 : List Event
    worker_list1 = Scan t ∷ worker_list2

    abbrev worker_event0 : Event
    worker_event0 = look_or t (current_slot setting w) worker_event1

    abbrev worker_list0 : List Event
    worker_list0 = Look t ∷ worker_list1

    pub worker_first : First (order_of_worker t (length w.allocation)) (next_of_worker setting t w queue)
    worker_first =
        race_first w.proposal refl worker_list0 worker_event0 (λ n. look_first (current_slot setting w) refl n worker_list1 worker_event1 (λ c. scan_first w.hand refl n c worker_list2 worker_event2 (λ h. export_first w.aside refl worker_list3 worker_event3 (λ a.
        (let f = free setting s t w here n c h in own_first f worker_list4 worker_event4 0 w.allocation all_open (λ o. large_first f w.large refl worker_list5 worker_event5 (λ l. take_first f queue own (Idle t ∷ []) (Idle t) (λ q. out f a o l q))))))))

    abbrev one_event5 : Event
    one_event5 = large_or t w.large (Idle t)

    abbrev one_list5 : List Event
    one_list5 = OwnLarge t ∷ (Idle t ∷ [])

    abbrev one_event4 : Event
    one_event4 = own_or t (lowest_open 0 w.allocation) one_event5

    abbrev one_list4 : List Event
    one_list4 = own_events t 0 (length w.allocation) one_list5

    abbrev one_event3 : Event
    one_event3 = take_or t queue one_event4

    abbrev one_list3 : List Event
    one_list3 = Take t t ∷ one_list4

    abbrev one_event2 : Event
    one_event2 = export_or t w.aside one_event3

    abbrev one_list2 : List Event
    one_list2 = Export t ∷ one_list3

    abbrev one_event1 : Event
    one_event1 = scan_or t w.hand one_event2

    abbrev one_list1 : List Event
    one_list1 = Scan t ∷ one_list2

    abbrev one_event0 : Event
    one_event0 = look_or t (current_slot setting w) one_event1

    abbrev one_list0 : List Event
    one_list0 = Look t ∷ one_list1

    pub one_first : First (order_of_one t (length w.allocation)) (next_of_one setting t w queue)
    one_first =
        race_first w.proposal refl one_list0 one_event0 (λ n. look_first (current_slot setting w) refl n one_list1 one_event1 (λ c. scan_first w.hand refl n c one_list2 one_event2 (λ h. export_first w.aside refl one_list3 one_event3 (λ a.
        (let f = free setting s t w here n c h in take_first f queue own one_list4 one_event4 (λ q. own_first f one_list5 one_event5 0 w.allocation all_open (λ o. large_first f w.large refl (Idle t ∷ []) (Idle t) (λ l. out f a o l q))))))))

unset-lower : (k t : ℕ) (bs : List Bool) → lowest_unset k bs ≡ Some t → (v : ℕ) → k + v < t → slice_get bs v ≡ Some true
unset-lower k t [] e v l = absurd (none-some e)
unset-lower k t (false ∷ bs) e v l = let q : k ≡ t = cc in absurd (omega arith)
unset-lower k t (true ∷ bs) e zero l = refl
unset-lower k t (true ∷ bs) e (suc v) l = unset-lower (k + 1) t bs e v (omega arith)

module _ (setting : Setting) (s : System) (k : Shaped s) where
  chosen : (order : ℕ → ℕ → List Event) (next : ℕ → Worker → List Block → Event)
      → ((t : ℕ) (w : Worker) → IsAwake s t w → (q : List Block) → slice_get s.queues t ≡ Some q → IsFirst (IsLawful setting s) (order t (length w.allocation)) (next t w q))
      → (o : Option ℕ) → lowest_unset 0 s.idle ≡ o → IsChosen setting order s (next_from s next o)
  chosen order next h (Some t) e =
      let awake = unset-at t s.idle e in
      let a : t < length s.idle = get-lt s.idle t false awake in
      let b = k.idle in
      let c = k.queues in
      let w = get-some s.workers t (omega arith) in
      let q = get-some s.queues t (omega arith) in
      subst (λ o. IsChosen setting order s (option_map (λ x. next t x (queue_at s t)) o)) (sym w.1)
      (inl (record {
        t = t;
        worker = w.0;
        at = record { is = w.1; awake = awake };
        lower_idle = λ v l. unset-lower 0 t s.idle e v (omega arith);
        first = subst (λ o. IsFirst (IsLawful setting s) (order t (length w.0.allocation)) (next t w.0 (option_map_or (λ x. x) o []))) (sym q.1) (h t w.0 (record { is = w.1; awake = awake }) q.0 q.1);
      }))
  chosen order next h None e = go (lowest_unset 0 s.ended) refl
    where
      go : (o : Option ℕ) → lowest_unset 0 s.ended ≡ o → IsChosen setting order s (option_map End o)
      go None g = λ t l. (let a = k.ended in set-there s.ended t (unset-none 0 s.ended g) (omega arith))
      go (Some t) g = inr (record { t = t; all_idle = unset-none 0 s.idle e ∙ k.idle; not_ended = unset-at t s.ended g; lower_ended = λ v l. unset-lower 0 t s.ended g v (omega arith); ends = refl })

  pub next_is_chosen : IsChosen setting order_of_worker s (next_lawful setting s)
  next_is_chosen = chosen order_of_worker (next_of_worker setting) (λ t w a q e. worker_first setting s t w a q e) (lowest_unset 0 s.idle) refl

  pub alone_is_chosen : IsChosen setting order_of_one s (next_alone setting s)
  alone_is_chosen = chosen order_of_one (next_of_one setting) (λ t w a q e. one_first setting s t w a q e) (lowest_unset 0 s.idle) refl
