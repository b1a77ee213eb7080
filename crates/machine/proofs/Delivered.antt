-- What the queues of workers that ended tell.
use Rattle.std.proofs.Common.{◌≡◌, ℕ, zero, suc, ◌+◌, ◌≤◌, List, [], ◌∷◌, ◌++◌, length, map, drop, min, Some, refl, sym, ap, ◌∙◌, arith}
use Rattle.std.proofs.lemmas.List.{map-append}
use Rattle.std.proofs.lemmas.List.Elements.{All-nil, All-cons}
use Rattle.std.specs.Prelude.{All, IsSome, flat_map, slice_get}
use Rattle.std.specs.List.{enumerate_from, range_with_len}
use Rattle.model.specs.Destination.{Shape}
use Rattle.block_pool.specs.BlockValue.{BlockValue}
use Rattle.pending_queues.specs.declared.exports.deliveries.Delivery.{Delivery as Outcome}
use Rattle.pending_queues.specs.PlainValue.{PlainLane, outcomes, outcomes_of}
use Rattle.pending_queues.specs.PlainValue.{PlainValue as PlainQueuesValue}
use Rattle.scavenge.specs.Handed.{CopiesKeyValue}
use Rattle.steps.specs.declared.heap_values.report.Delivery.{Delivery}
use Rattle.workers.specs.Block.{Block}
use Rattle.workers.specs.Joined.{Each}
use Rattle.workers.specs.Lawful.{AllEnded}
use Rattle.scavenge.specs.Named.{named}
use Rattle.settling.proofs.Blocks.{named_length}
use Rattle.machine.specs.InterleavedValue.{InterleavedValue, MemberValue, queue_in, exports_in, system_of}
use Rattle.machine.specs.IsInterleaved.{IsInterleaved, HasTaken}
use Rattle.machine.proofs.Places.{get-map}
use Rattle.settling.specs.Together.{label_of, IsDelivery, AreDelivered}
use Rattle.settling.specs.Telling.{delivery_of, deliveries_of, all_deliveries}
use Rattle.settling.proofs.Parted.{Each-append}
use Rattle.settling.proofs.EndedLists.{each_place}
use Rattle.machine.proofs.Ended.{nothing_left}

-- the first blocks, as many as there are takers, were taken
taken_all : (sent : List BlockValue) (takers : List ℕ) → length sent ≤ length takers → All (λ (e : Outcome). IsSome e.taker) (outcomes sent takers)
taken_all [] takers l = All-nil (λ (e : Outcome). IsSome e.taker)
taken_all (b ∷ sent) [] l = absurd (omega (arith, l))
taken_all (b ∷ sent) (t ∷ takers) l = All-cons (λ (e : Outcome). IsSome e.taker) _ (outcomes sent takers) refl (taken_all sent takers (omega (arith, l)))

all_lanes : (lanes : List PlainLane) → Each (λ (lane : PlainLane). length lane.sent ≤ length lane.takers) lanes → All (λ es. All (λ (e : Outcome). IsSome e.taker) es) (map outcomes_of lanes)
all_lanes [] h = All-nil (λ es. All (λ (e : Outcome). IsSome e.taker) es)
all_lanes (l ∷ ls) h = All-cons (λ es. All (λ (e : Outcome). IsSome e.taker) es) (outcomes_of l) (map outcomes_of ls) (taken_all l.sent l.takers h.0) (all_lanes ls h.1)

drop_none : {A : Type 0} (xs : List A) (n : ℕ) → drop n xs ≡ [] → length xs ≤ n
drop_none [] n e = omega arith
drop_none (x ∷ xs) zero e = absurd (cc)
drop_none (x ∷ xs) (suc n) e = let h = drop_none xs n e in omega (arith, h)

map_none : {A B : Type 0} (f : A → B) (xs : List A) → map f xs ≡ [] → xs ≡ []
map_none f [] e = refl
map_none f (x ∷ xs) e = absurd (cc)

-- the labels of one exporter
lane_labels : (shape : Shape) (u i : ℕ) (sent : List BlockValue) (takers : List ℕ) → map label_of (map (delivery_of u) (enumerate_from i (outcomes sent takers))) ≡ map (λ position. (u, position)) (range_with_len i (length (map (named shape) sent)))
lane_labels shape u i [] takers = refl
lane_labels shape u i (b ∷ sent) [] = ap (λ xs. (u, i) ∷ xs) (lane_labels shape u (i + 1) sent [])
lane_labels shape u i (b ∷ sent) (t ∷ takers) = ap (λ xs. (u, i) ∷ xs) (lane_labels shape u (i + 1) sent takers)

labels_from : (shape : Shape) (u : ℕ) (lanes : List PlainLane)
    → map label_of (flat_map (λ (e : ℕ × List Outcome). deliveries_of e.0 e.1) (enumerate_from u (map outcomes_of lanes)))
    ≡ flat_map (λ (e : ℕ × List Block). map (λ position. (e.0, position)) (range_with_len 0 (length e.1))) (enumerate_from u (map (exports_in shape) lanes))
labels_from shape u [] = refl
labels_from shape u (l ∷ ls) =
    map-append label_of (deliveries_of u (outcomes_of l)) (flat_map (λ (e : ℕ × List Outcome). deliveries_of e.0 e.1) (enumerate_from (u + 1) (map outcomes_of ls)))
    ∙ ap (λ xs. xs ++ map label_of (flat_map (λ (e : ℕ × List Outcome). deliveries_of e.0 e.1) (enumerate_from (u + 1) (map outcomes_of ls)))) (lane_labels shape u 0 l.sent l.takers)
    ∙ ap (λ xs. map (λ position. (u, position)) (range_with_len 0 (length (exports_in shape l))) ++ xs) (labels_from shape (u + 1) ls)

-- what holds of each block by its place, and its taker, holds of what is told of it
each_told : (P : Delivery → Type 0) (u i : ℕ) (sent : List BlockValue) (takers : List ℕ) → length sent ≤ length takers
    → ((position j t : ℕ) (b : BlockValue) → position ≡ i + j → slice_get sent j ≡ Some b → slice_get takers j ≡ Some t → P (record { exporter = u; position = position; objects = min (length b.objects) 4294967295; taker = t }))
    → Each P (map (delivery_of u) (enumerate_from i (outcomes sent takers)))
each_told P u i [] takers l h = tt
each_told P u i (b ∷ sent) [] l h = absurd (omega (arith, l))
each_told P u i (b ∷ sent) (t ∷ takers) l h = (h i 0 t b (omega arith) refl refl, each_told P u (i + 1) sent takers (omega (arith, l)) (λ position j s c e x y. h position (suc j) s c (omega (arith, e)) x y))

each_lane : (P : Delivery → Type 0) (u : ℕ) (lanes : List PlainLane) → ((exporter j : ℕ) (lane : PlainLane) → exporter ≡ u + j → slice_get lanes j ≡ Some lane → Each P (deliveries_of exporter (outcomes_of lane)))
    → Each P (flat_map (λ (e : ℕ × List Outcome). deliveries_of e.0 e.1) (enumerate_from u (map outcomes_of lanes)))
each_lane P u [] h = tt
each_lane P u (l ∷ ls) h =
    Each-append P (deliveries_of u (outcomes_of l)) _ (h u 0 l (omega arith) refl) (each_lane P (u + 1) ls (λ exporter j lane e x. h exporter (suc j) lane (omega (arith, e)) x))

module _ (v : InterleavedValue) (k : IsInterleaved v) (ended : AllEnded (system_of v)) where
  abbrev shape : Shape
  shape = v.heap.config.shape

  -- no block waits
  all_taken : (u : ℕ) (lane : PlainLane) → slice_get v.queues.lanes u ≡ Some lane → length lane.sent ≤ length lane.takers
  all_taken u lane at =
      drop_none lane.sent (length lane.takers) (map_none (named shape) (drop (length lane.takers) lane.sent) ((nothing_left v k ended).queues u (queue_in shape lane) (get-map (queue_in shape) v.queues.lanes u lane at)))

  pub each_taken : All (λ es. All (λ (e : Outcome). IsSome e.taker) es) (map outcomes_of v.queues.lanes)
  each_taken = all_lanes v.queues.lanes (each_place (λ (lane : PlainLane). length lane.sent ≤ length lane.takers) v.queues.lanes all_taken)

  -- what is told of a block
  told : (u position t : ℕ) (lane : PlainLane) (b : BlockValue) → slice_get v.queues.lanes u ≡ Some lane → slice_get lane.sent position ≡ Some b → slice_get lane.takers position ≡ Some t
      → IsDelivery (system_of v) (record { exporter = u; position = position; objects = min (length b.objects) 4294967295; taker = t })
  told u position t lane b at there taken =
      let h : HasTaken v.members t u position = k.takers u lane at position t taken in
      record {
        exports = exports_in shape lane;
        exporter = get-map (exports_in shape) v.queues.lanes u lane at;
        block = named shape b;
        there = get-map (named shape) lane.sent position b there;
        objects = ap (λ n. min n 4294967295) (sym (named_length b.number 0 b.origins b.objects ((k.queue.each u lane at).noted position b there)));
        taken = h.member.taken;
        taker = get-map (λ (m : MemberValue). m.taken) v.members t h.member h.there;
        place = h.place;
        took = h.took;
      }

  pub delivered : AreDelivered (system_of v) (all_deliveries (map outcomes_of v.queues.lanes))
  delivered =
      record {
        labels = labels_from shape 0 v.queues.lanes;
        each = each_lane (IsDelivery (system_of v)) 0 v.queues.lanes (λ exporter j lane e at.
            (let x : slice_get v.queues.lanes exporter ≡ Some lane = ap (slice_get v.queues.lanes) (let q : exporter ≡ j = omega (arith, e) in q) ∙ at in
            each_told (IsDelivery (system_of v)) exporter 0 lane.sent lane.takers (all_taken exporter lane x) (λ position i t b d there taken.
            (let q : position ≡ i = omega (arith, d) in
            told exporter position t lane b x (ap (slice_get lane.sent) q ∙ there) (ap (slice_get lane.takers) q ∙ taken)))));
      }

pub told_is : (v : InterleavedValue) (queues : PlainQueuesValue CopiesKeyValue) (told : List (List Outcome)) → queues ≡ v.queues → told ≡ map outcomes_of queues.lanes → told ≡ map outcomes_of v.queues.lanes
told_is v queues told same is = is ∙ ap (λ (q : PlainQueuesValue CopiesKeyValue). map outcomes_of q.lanes) same
