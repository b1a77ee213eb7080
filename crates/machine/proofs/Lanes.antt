-- The workers' queues: what lasts where one worker exports or takes, and what the system sees.
use Rattle.std.proofs.Common.{◌≡◌, ℕ, zero, suc, ◌+◌, ◌<◌, ◌≤◌, true, List, [], ◌∷◌, ◌++◌, length, map, drop, Some, None, refl, sym, ap, subst, ◌∙◌, arith}
use Rattle.std.specs.Prelude.{slice_get, slice_set}
use Rattle.std.proofs.lemmas.List.{map-append, drop-append-le}
use Rattle.model.specs.Destination.{Shape, dest_count}
use Rattle.block_pool.specs.BlockValue.{BlockValue}
use Rattle.pending_queues.specs.Labelled.{labelled}
use Rattle.pending_queues.specs.PlainValue.{PlainLane, empty_lane, lane_at, front_of, with_export, with_taker}
use Rattle.pending_queues.specs.PlainValue.{PlainValue as PlainQueuesValue}
use Rattle.steps.specs.HeapValue.{HeapValue}
use Rattle.steps.specs.CollectionValue.{CollectionValue, target_of_slot}
use Rattle.scavenge.specs.Handed.{CopiesKeyValue, IsHandedFor}
use Rattle.workers.specs.Block.{Block, has_unscanned}
use Rattle.workers.specs.Joined.{Each}
use Rattle.workers.specs.Ready.{IsHanded}
use Rattle.model.specs.Collected.{IsLiveOrOlder}
use Rattle.workers.proofs.Starts.{opens, opening_each}
use Rattle.workers.proofs.ReadyRuns.{exports_handed}
use Rattle.workers.proofs.ReadyLemmas.{handed_alike, handed_labelled}
use Rattle.scavenge.specs.Named.{named, IsWhole}
use Rattle.scavenge.specs.Shown.{Begins}
use Rattle.scavenge.specs.Waiting.{waiting_in}
use Rattle.scavenge.specs.ReadyToCollect.{IsReadyToCollect}
use Rattle.scavenge.proofs.Starts.{targets_live}
use Rattle.machine.specs.InterleavedValue.{MemberValue, queue_in, exports_in, setting_for}
use Rattle.machine.specs.IsInterleaved.{IsMember, IsLane, AreQueued, begins}
use Rattle.machine.proofs.Places.{get-there, get-within, set-each, length-set, length-map, index-or}
use Rattle.machine.proofs.Readiness.{start_roomy}

pub drop_next : {A : Type 0} (xs : List A) (n : ℕ) (x : A) → slice_get xs n ≡ Some x → drop n xs ≡ x ∷ drop (n + 1) xs
drop_next [] n x e = absurd (cc)
drop_next (y ∷ xs) zero x e = let q : y ≡ x = cc in ap (λ z. z ∷ xs) q
drop_next (y ∷ xs) (suc n) x e = let k : suc n + 1 ≡ suc (n + 1) = omega arith in drop_next xs n x e ∙ ap (λ j. x ∷ drop j (y ∷ xs)) (sym k)

pub drop_none : {A : Type 0} (xs : List A) (n : ℕ) → slice_get xs n ≡ None → drop n xs ≡ []
drop_none [] zero e = refl
drop_none [] (suc n) e = refl
drop_none (y ∷ xs) zero e = absurd (cc)
drop_none (y ∷ xs) (suc n) e = drop_none xs n e

-- what holds of each element by its place, holds with one more
pub places_more : {A : Type 0} (P : ℕ → A → Type 0) (xs : List A) (x : A) → ((i : ℕ) (y : A) → slice_get xs i ≡ Some y → P i y) → P (length xs) x → (i : ℕ) (y : A) → slice_get (xs ++ x ∷ []) i ≡ Some y → P i y
places_more P [] x k h zero y e = let q : x ≡ y = cc in subst (P 0) q h
places_more P [] x k h (suc i) y e = absurd (cc)
places_more P (z ∷ zs) x k h zero y e = k zero y e
places_more P (z ∷ zs) x k h (suc i) y e = places_more (λ j. P (suc j)) zs x (λ j. k (suc j)) h i y e

pub length_more : {A : Type 0} (xs : List A) (x : A) → length (xs ++ x ∷ []) ≡ suc (length xs)
length_more [] x = refl
length_more (y ∷ ys) x = ap suc (length_more ys x)

pub each_more : {A : Type 0} (P : A → Type 0) (xs : List A) (x : A) → Each P xs → P x → Each P (xs ++ x ∷ [])
each_more P [] x h p = (p, tt)
each_more P (y ∷ ys) x h p = (h.0, each_more P ys x h.1 p)

-- the label of the next export
abbrev pub label_of : ℕ → PlainLane → BlockValue → BlockValue
label_of u lane b = labelled u (length lane.sent) b

-- the block as it is labelled in the system
abbrev pub sent_as : Shape → ℕ → PlainLane → BlockValue → Block
sent_as shape u lane b = record (named shape b) { sent = Some (u, length (exports_in shape lane)) }

module _ (shape : Shape) (u : ℕ) (lane : PlainLane) (b : BlockValue) where
  label_seen : named shape (label_of u lane b) ≡ sent_as shape u lane b
  label_seen = ap (λ n. (let x : Block = record (named shape b) { sent = Some (u, n) } in x)) (sym (length-map (named shape) lane.sent))

  pub exports_more : exports_in shape (with_export lane u b) ≡ exports_in shape lane ++ sent_as shape u lane b ∷ []
  exports_more = map-append (named shape) lane.sent (label_of u lane b ∷ []) ∙ ap (λ x. exports_in shape lane ++ x ∷ []) label_seen

  pub queue_more : length lane.takers ≤ length lane.sent → queue_in shape (with_export lane u b) ≡ queue_in shape lane ++ sent_as shape u lane b ∷ []
  queue_more few =
      ap (map (named shape)) (drop-append-le (length lane.takers) lane.sent (label_of u lane b ∷ []) few)
      ∙ map-append (named shape) (waiting_in lane) (label_of u lane b ∷ [])
      ∙ ap (λ x. queue_in shape lane ++ x ∷ []) label_seen

  pub lane_more : length b.origins ≡ length b.objects → IsLane u lane → IsLane u (with_export lane u b)
  lane_more all_noted k =
      record {
        taken = omega (arith, k.taken, length_more lane.sent (label_of u lane b));
        labels = places_more (λ position (block : BlockValue). block.sent ≡ Some (u, position)) lane.sent (label_of u lane b) k.labels refl;
        noted = places_more (λ position (block : BlockValue). length block.origins ≡ length block.objects) lane.sent (label_of u lane b) k.noted all_noted;
      }

module _ (u : ℕ) (lane : PlainLane) (b : BlockValue) (taker : ℕ) (front : front_of lane ≡ Some b) where
  one_more : length (lane.takers ++ taker ∷ []) ≡ length lane.takers + 1
  one_more = let e = length_more lane.takers taker in omega (arith, e)

  pub lane_less : IsLane u lane → IsLane u (with_taker lane taker (Some b))
  lane_less k =
      record {
        taken = let l = get-within lane.sent (length lane.takers) b front in omega (arith, l, one_more);
        labels = k.labels;
        noted = k.noted;
      }

  pub queue_next : (shape : Shape) → queue_in shape lane ≡ named shape b ∷ queue_in shape (with_taker lane taker (Some b))
  queue_next shape =
      ap (map (named shape)) (drop_next lane.sent (length lane.takers) b front)
      ∙ ap (λ n. named shape b ∷ map (named shape) (drop n lane.sent)) (sym one_more)

-- a block is in front where one waits
pub front_waits : (shape : Shape) (lane : PlainLane) (block : Block) (rest : List Block) → queue_in shape lane ≡ block ∷ rest → front_of lane ≡ None → ⊥
front_waits shape lane block rest e none = let x = ap (map (named shape)) (sym (drop_none lane.sent (length lane.takers) none)) ∙ e in cc

module _ (heap : HeapValue) (c : CollectionValue) (n : ℕ) (queues : PlainQueuesValue CopiesKeyValue) (k : AreQueued heap c n queues) where
  -- one lane changed
  pub queued_on : (u : ℕ) (lane : PlainLane) → IsLane u lane → AreQueued heap c n (record queues { lanes = slice_set queues.lanes u lane })
  queued_on u lane is = record { key = k.key; count = length-set queues.lanes u lane ∙ k.count; each = set-each IsLane queues.lanes u lane k.each is }

  -- a worker's own lane
  pub own_lane : (t : ℕ) → t < n → slice_get queues.lanes t ≡ Some (lane_at queues t)
  own_lane t l =
      let x = get-there queues.lanes t (omega (arith, l, k.count)) in
      x.1 ∙ ap (λ y. Some y) (sym (index-or queues.lanes t x.0 empty_lane x.1))

  pub lane_is : (u : ℕ) (lane : PlainLane) → slice_get queues.lanes u ≡ Some lane → lane_at queues u ≡ lane
  lane_is u lane at = index-or queues.lanes u lane empty_lane at

  -- a block that a worker has aside, as queues hand it over
  module _ (t : ℕ) (m : MemberValue) (member : IsMember heap c n t m) (ready : IsReadyToCollect heap c) (b : BlockValue) where
    pub aside_handed : Begins m.workspace.config.shape m.workspace.worker.aside b → IsHanded heap.graph c.generation heap.config.shape heap.config.block_words n (named m.workspace.config.shape b)
    aside_handed first =
        let starts = opening_each (setting_for heap c n) (IsLiveOrOlder heap.graph c.generation) (dest_count heap.config.shape c.generation) n (map target_of_slot c.slots) (targets_live heap c ready) t 1 in
        let all = exports_handed heap.graph c.generation heap.config.shape heap.config.block_words n (begins heap c n t) m.workspace.worker member.worked.history
        (opens (dest_count heap.config.shape c.generation) n (map target_of_slot c.slots) t) (start_roomy heap c ready n t) starts.0 member.worked.taken member.worked.run in
        (subst (Each (IsHanded heap.graph c.generation heap.config.shape heap.config.block_words n)) first.is all.0).0

    pub handed_for : (position : ℕ) → IsWhole m.workspace.config.shape m.workspace.config.block_words b → Begins m.workspace.config.shape m.workspace.worker.aside b → IsHandedFor queues.key (labelled t position b)
    handed_for position whole first =
        subst (λ (key : CopiesKeyValue). IsHandedFor key (labelled t position b)) (sym k.key)
        (record {
          whole = subst (λ x. IsWhole x.shape x.block_words (labelled t position b)) member.config (record { words = whole.words; destination = whole.destination; noted = whole.noted; front = whole.front });
          copies = subst (λ x. IsHanded heap.graph c.generation heap.config.shape heap.config.block_words 0 (named x.shape (labelled t position b))) member.config
              (handed_labelled heap.graph c.generation heap.config.shape heap.config.block_words 0 (named m.workspace.config.shape b) (Some (t, position))
              (handed_alike heap.graph c.generation heap.config.shape heap.config.block_words n 0 (named m.workspace.config.shape b) (aside_handed first)));
        })

  -- a block that was taken
  module _ (t : ℕ) (m : MemberValue) (member : IsMember heap c n t m) (b : BlockValue) (fact : IsHandedFor queues.key b) where
    pub taken_handed : IsHanded heap.graph c.generation heap.config.shape heap.config.block_words n (named m.workspace.config.shape b)
    taken_handed =
        handed_alike heap.graph c.generation heap.config.shape heap.config.block_words 0 n (named m.workspace.config.shape b)
        (subst (λ x. IsHanded heap.graph c.generation heap.config.shape heap.config.block_words 0 (named x.shape b)) (sym member.config)
        (subst (λ (key : CopiesKeyValue). IsHanded key.heap.graph key.generation key.heap.config.shape key.heap.config.block_words 0 (named key.heap.config.shape b)) k.key fact.copies))

    pub taken_unscanned : has_unscanned (named m.workspace.config.shape b) ≡ true
    taken_unscanned = taken_handed.some

    pub taken_whole : IsWhole m.workspace.config.shape m.workspace.config.block_words b
    taken_whole = subst (λ x. IsWhole x.shape x.block_words b) (sym member.config) (subst (λ (key : CopiesKeyValue). IsWhole key.heap.config.shape key.heap.config.block_words b) k.key fact.whole)
