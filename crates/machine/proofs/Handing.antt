-- A worker exports a block, or takes one.
use Rattle.std.proofs.Common.{◌≡◌, ℕ, ◌<◌, true, false, List, [], ◌∷◌, ◌++◌, length, map, Some, None, refl, sym, ap, subst, ◌∙◌, arith}
use Rattle.std.specs.Prelude.{slice_get, slice_set, slice_index_or}
use Rattle.model.specs.Destination.{Shape}
use Rattle.block_pool.specs.BlockValue.{BlockValue}
use Rattle.pending_queues.specs.PlainValue.{PlainLane, lane_at, front_of, with_export, with_taker, after_export, after_take}
use Rattle.pending_queues.specs.PlainValue.{PlainValue as PlainQueuesValue}
use Rattle.scavenge.specs.Handed.{CopiesKeyValue, IsHandedFor}
use Rattle.workers.specs.Block.{updated}
use Rattle.workers.specs.WorkerSteps.{after_aside}
use Rattle.workers.specs.WorkerSteps.{after_take as after_take_of}
use Rattle.workers.specs.WorkerRun.{Exported, Took}
use Rattle.workers.specs.System.{System, Export, Take}
use Rattle.workers.specs.Lawful.{IsLawful}
use Rattle.workers.specs.Ready.{IsHanded}
use Rattle.scavenge.specs.Named.{named}
use Rattle.scavenge.specs.Shown.{WorkspaceValue, Begins}
use Rattle.machine.specs.InterleavedValue.{InterleavedValue, MemberValue, Stays, queue_in, exports_in, system_of, setting_in}
use Rattle.machine.specs.IsInterleaved.{IsInterleaved, IsLane, IsMember}
use Rattle.machine.proofs.Places.{found, get-map, get-within, map-set, map-set_same, updated-set, set-again}
use Rattle.machine.proofs.Takers.{takers_same, takers_more, takers_lane}
use Rattle.machine.proofs.Members.{Does, doing, staying, renewed, renews, system-renewed, taken-same, member_on, is_in}
use Rattle.machine.proofs.Lanes.{sent_as, exports_more, queue_more, lane_more, lane_less, queue_next, front_waits, queued_on, own_lane, lane_is, taken_handed, taken_unscanned, each_more}

abbrev pub sharing : InterleavedValue → PlainQueuesValue CopiesKeyValue → ℕ → MemberValue → InterleavedValue
sharing v queues t m = renewed v v.cells v.pass v.draws queues t m

module _ (v : InterleavedValue) (k : IsInterleaved v) (t : ℕ) (m : MemberValue) (is : m ≡ slice_index_or v.members t m) where
  abbrev shape : Shape
  shape = v.heap.config.shape

  -- a worker of the machine has a lane
  pub has_lane : slice_get v.members t ≡ Some m → t < v.workers
  has_lane at = let l = get-within v.members t m at in omega (arith, l, k.count)

  module _ (lawful : IsLawful (setting_in v) (system_of v) (Export t)) (b : BlockValue) (first : Begins m.workspace.config.shape m.workspace.worker.aside b) (all_noted : length b.origins ≡ length b.objects) where
    abbrev lane : PlainLane
    lane = lane_at v.queues t

    abbrev lanes : PlainQueuesValue CopiesKeyValue
    lanes = record v.queues { lanes = slice_set v.queues.lanes t (with_export lane t b) }

    abbrev sender : MemberValue
    sender = record m { workspace = record m.workspace { worker = after_aside m.workspace.worker; spare = true } }

    exported : Does (Export t) v (sharing v lanes t sender)
    exported =
        let i = is_in _ v t m is lawful in
        let member : IsMember v.heap v.collection v.workers t m = k.each t m i.there in
        let at : slice_get v.queues.lanes t ≡ Some lane = own_lane v.heap v.collection v.workers v.queues k.queue t (has_lane i.there) in
        let is_lane : IsLane t lane = k.queue.each t lane at in
        let next = member_on v.heap v.collection v.workers t m Exported member i.can (λ h l. l) in
        let oldest : Begins shape m.workspace.worker.aside b = subst (λ c. Begins c.shape m.workspace.worker.aside b) member.config first in
        doing (Export t) v (sharing v lanes t sender) k (λ reached. renews v k t m sender i.there v.cells v.pass v.draws lanes k.cells k.draws (queued_on v.heap v.collection v.workers v.queues k.queue t (with_export lane t b) (lane_more shape t lane b all_noted is_lane)) refl
        (record { seat = next.seat; config = next.config; names = next.names; claim = next.claim; worked = next.worked })
        (takers_lane v.queues.lanes (slice_set v.members t sender) t lane (with_export lane t b) at refl (takers_same v.members t m sender i.there v.queues.lanes refl k.takers)) reached)
        (record {
          heap = refl;
          collection = refl;
          workers = refl;
          step = record {
            worker = m.workspace.worker;
            at = i.awake;
            block = named shape b;
            rest = oldest.rest;
            oldest = oldest.is;
            sent = exports_in shape lane;
            sent_is = get-map (exports_in shape) v.queues.lanes t lane at;
            change = system-renewed v v.cells v.pass v.draws lanes t m sender i.there refl refl
                ∙ ap (λ ts. (let s : System = record (system_of v) { workers = slice_set (system_of v).workers t (after_aside m.workspace.worker); queues = map (queue_in shape) lanes.lanes; exported = map (exports_in shape) lanes.lanes; taken = ts } in s)) (taken-same v t m i.there)
                ∙ ap (λ qs. (let s : System = record (system_of v) { workers = slice_set (system_of v).workers t (after_aside m.workspace.worker); queues = qs; exported = map (exports_in shape) lanes.lanes } in s))
                (map-set (queue_in shape) v.queues.lanes t (with_export lane t b)
                ∙ ap (slice_set (system_of v).queues t) (queue_more shape t lane b is_lane.taken)
                ∙ sym (updated-set (λ q. q ++ sent_as shape t lane b ∷ []) (system_of v).queues t (queue_in shape lane) (get-map (queue_in shape) v.queues.lanes t lane at)))
                ∙ ap (λ es. (let s : System = record (system_of v) { workers = slice_set (system_of v).workers t (after_aside m.workspace.worker); queues = updated (λ q. q ++ sent_as shape t lane b ∷ []) (system_of v).queues t; exported = es } in s))
                (map-set (exports_in shape) v.queues.lanes t (with_export lane t b)
                ∙ ap (slice_set (system_of v).exported t) (exports_more shape t lane b)
                ∙ sym (updated-set (λ q. q ++ sent_as shape t lane b ∷ []) (system_of v).exported t (exports_in shape lane) (get-map (exports_in shape) v.queues.lanes t lane at)));
          };
        })

    -- the call's answers: the workspace let go of the block, and the queue got it
    pub export_does : (new : WorkspaceValue) (queues : PlainQueuesValue CopiesKeyValue) (seat : ℕ) → new ≡ record m.workspace { worker = after_aside m.workspace.worker; spare = true } → queues ≡ after_export v.queues m.seat b → seat ≡ m.seat
        → Does (Export t) v (sharing v queues t (record m { seat = seat; workspace = new }))
    export_does new queues seat n q s =
        let i = is_in _ v t m is lawful in
        let mine : m.seat ≡ t = (k.each t m i.there).seat in
        subst (λ x. Does (Export t) v (sharing v queues t (record m { seat = seat; workspace = x }))) (sym n)
        (subst (λ x. Does (Export t) v (sharing v x t (record m { seat = seat; workspace = sender.workspace }))) (sym (q ∙ ap (λ j. after_export v.queues j b) mine))
        (subst (λ x. Does (Export t) v (sharing v lanes t (record m { seat = x; workspace = sender.workspace }))) (sym s) exported))

  -- the worker's part is as it was, but for the room to put a block back
  pub put_back : slice_get v.members t ≡ Some m → (new : WorkspaceValue) (queues : PlainQueuesValue CopiesKeyValue) (seat : ℕ) → new ≡ record m.workspace { spare = false } → queues ≡ v.queues → seat ≡ m.seat
      → IsInterleaved (sharing v queues t (record m { seat = seat; workspace = new })) × Stays v (sharing v queues t (record m { seat = seat; workspace = new }))
  put_back at new queues seat n q s =
      subst (λ x. Kept (sharing v queues t (record m { seat = seat; workspace = x }))) (sym n)
      (subst (λ x. Kept (sharing v x t (record m { seat = seat; workspace = record m.workspace { spare = false } }))) (sym q)
      (subst (λ x. Kept (sharing v v.queues t (record m { seat = x; workspace = record m.workspace { spare = false } }))) (sym s)
      (staying v (sharing v v.queues t spared) k (λ reached. renews v k t m spared at v.cells v.pass v.draws v.queues k.cells k.draws k.queue refl
      (let member : IsMember v.heap v.collection v.workers t m = k.each t m at in record { seat = member.seat; config = member.config; names = member.names; claim = member.claim; worked = member.worked }) (takers_same v.members t m spared at v.queues.lanes refl k.takers) reached)
      (record {
        heap = refl;
        collection = refl;
        workers = refl;
        system = system-renewed v v.cells v.pass v.draws v.queues t m spared at refl refl
            ∙ ap (λ ts. (let x : System = record (system_of v) { workers = slice_set (system_of v).workers t m.workspace.worker; taken = ts } in x)) (taken-same v t m at)
            ∙ ap (λ ws. (let x : System = record (system_of v) { workers = ws } in x)) (set-again (system_of v).workers t m.workspace.worker (get-map (λ (x : MemberValue). x.workspace.worker) v.members t m at));
      }))))
    where
      Kept : InterleavedValue → Type 0
      Kept next = IsInterleaved next × Stays v next

      spared : MemberValue
      spared = record m { workspace = record m.workspace { spare = false } }

  module _ (u : ℕ) (lawful : IsLawful (setting_in v) (system_of v) (Take t u)) where
    -- the lane that is taken from
    pub record IsFrom (lane : PlainLane) : Type 0 where
      pub there : slice_get v.queues.lanes u ≡ Some lane
      pub waits : front_of lane ≡ None → ⊥

    pub from : IsFrom (lane_at v.queues u)
    from =
        let f = found (queue_in shape) v.queues.lanes u (lawful.1.block ∷ lawful.1.rest) lawful.1.front in
        let same : lane_at v.queues u ≡ f.0 = lane_is v.heap v.collection v.workers v.queues k.queue u f.0 f.1.0 in
        subst IsFrom (sym same) (record { there = f.1.0; waits = front_waits shape f.0 lawful.1.block lawful.1.rest (sym f.1.1) })

    module _ (b : BlockValue) (front : front_of (lane_at v.queues u) ≡ Some b) (fact : IsHandedFor v.queues.key b) where
      -- its label
      pub label_is : b.sent ≡ Some (u, length (lane_at v.queues u).takers)
      label_is = (k.queue.each u (lane_at v.queues u) from.there).labels (length (lane_at v.queues u).takers) b front

      abbrev source : PlainLane
      source = lane_at v.queues u

      abbrev fewer : PlainQueuesValue CopiesKeyValue
      fewer = record v.queues { lanes = slice_set v.queues.lanes u (with_taker source m.seat (Some b)) }

      abbrev taker : MemberValue
      taker = record m { workspace = record m.workspace { worker = after_take_of m.workspace.worker (named m.workspace.config.shape b) }; taken = m.taken ++ (u, length source.takers) ∷ [] }

      took : Does (Take t u) v (sharing v fewer t taker)
      took =
          let i = is_in _ v t m is lawful.0 in
          let member : IsMember v.heap v.collection v.workers t m = k.each t m i.there in
          let handed = taken_handed v.heap v.collection v.workers v.queues k.queue t m member b fact in
          let next = member_on v.heap v.collection v.workers t m (Took (named m.workspace.config.shape b)) member (i.can, taken_unscanned v.heap v.collection v.workers v.queues k.queue t m member b fact)
          (λ h l. each_more (IsHanded v.heap.graph v.collection.generation v.heap.config.shape v.heap.config.block_words v.workers) h.taken (named m.workspace.config.shape b) l handed) in
          let is_lane : IsLane u source = k.queue.each u source from.there in
          let shapes : named m.workspace.config.shape b ≡ named shape b = ap (λ c. named c.shape b) member.config in
          doing (Take t u) v (sharing v fewer t taker) k (λ reached. renews v k t m taker i.there v.cells v.pass v.draws fewer k.cells k.draws (queued_on v.heap v.collection v.workers v.queues k.queue u (with_taker source m.seat (Some b)) (lane_less u source b m.seat front is_lane)) refl
          (record { seat = next.seat; config = next.config; names = next.names; claim = next.claim; worked = next.worked })
          (takers_more v.members t m taker i.there v.queues.lanes u source b m.seat from.there member.seat refl k.takers) reached)
          (record {
            heap = refl;
            collection = refl;
            workers = refl;
            step = record {
              worker = m.workspace.worker;
              at = i.awake;
              free = i.can;
              block = named shape b;
              rest = queue_in shape (with_taker source m.seat (Some b));
              front = get-map (queue_in shape) v.queues.lanes u source from.there ∙ ap (λ q. Some q) (queue_next u source b m.seat front shape);
              position = length source.takers;
              labelled = label_is;
              change = system-renewed v v.cells v.pass v.draws fewer t m taker i.there refl refl
                  ∙ ap (λ x. (let s : System = record (system_of v) { workers = slice_set (system_of v).workers t (after_take_of m.workspace.worker x); queues = map (queue_in shape) fewer.lanes; exported = map (exports_in shape) fewer.lanes; taken = slice_set (system_of v).taken t taker.taken } in s)) shapes
                  ∙ ap (λ qs. (let s : System = record (system_of v) { workers = slice_set (system_of v).workers t (after_take_of m.workspace.worker (named shape b)); queues = qs; exported = map (exports_in shape) fewer.lanes; taken = slice_set (system_of v).taken t taker.taken } in s))
                  (map-set (queue_in shape) v.queues.lanes u (with_taker source m.seat (Some b)))
                  ∙ ap (λ es. (let s : System = record (system_of v) { workers = slice_set (system_of v).workers t (after_take_of m.workspace.worker (named shape b)); queues = slice_set (system_of v).queues u (queue_in shape (with_taker source m.seat (Some b))); exported = es; taken = slice_set (system_of v).taken t taker.taken } in s))
                  (map-set_same (exports_in shape) v.queues.lanes u source (with_taker source m.seat (Some b)) from.there refl)
                  ∙ ap (λ ts. (let s : System = record (system_of v) { workers = slice_set (system_of v).workers t (after_take_of m.workspace.worker (named shape b)); queues = slice_set (system_of v).queues u (queue_in shape (with_taker source m.seat (Some b))); taken = ts } in s))
                  (sym (updated-set (λ l. l ++ (u, length source.takers) ∷ []) (system_of v).taken t m.taken (get-map (λ (x : MemberValue). x.taken) v.members t m i.there)));
            };
          })

      -- the call's answers: the queue gave the block, and the workspace has it
      pub take_does : (new : WorkspaceValue) (queues : PlainQueuesValue CopiesKeyValue) (seat : ℕ) (label : ℕ × ℕ) (taken : List (ℕ × ℕ)) → new ≡ record m.workspace { worker = after_take_of m.workspace.worker (named m.workspace.config.shape b) } → queues ≡ after_take v.queues u m.seat (Some b) → seat ≡ m.seat
          → b.sent ≡ Some label → taken ≡ m.taken ++ label ∷ [] → Does (Take t u) v (sharing v queues t (record m { seat = seat; workspace = new; taken = taken }))
      take_does new queues seat label taken n q s l ts =
          let there : (u, length source.takers) ≡ label = some_is (sym label_is ∙ l) in
          subst (λ x. Does (Take t u) v (sharing v queues t (record m { seat = seat; workspace = x; taken = taken }))) (sym n)
          (subst (λ x. Does (Take t u) v (sharing v x t (record m { seat = seat; workspace = taker.workspace; taken = taken }))) (sym q)
          (subst (λ x. Does (Take t u) v (sharing v fewer t (record m { seat = x; workspace = taker.workspace; taken = taken }))) (sym s)
          (subst (λ x. Does (Take t u) v (sharing v fewer t (record m { workspace = taker.workspace; taken = x }))) (sym (ts ∙ ap (λ e. m.taken ++ e ∷ []) (sym there))) took)))
        where
          some_is : {x y : ℕ × ℕ} → Some x ≡ Some y → x ≡ y
          some_is {x = x} {y = y} e = cc
