-- What closing the queues tells of each exported block.
use Rattle.std.specs.Prelude.{◌≡◌, ◌≤◌, ℕ, ◌<◌, ◌==◌, if◌then◌else◌, List, [], All, length, map, nat_lt, is_some, option_and_then, slice_get, slice_index_or, Option, Some, None, IsSomeAnd}
use Rattle.std.specs.List.{sum_by}
use Rattle.model.specs.Total.{one_if}
use Rattle.block_pool.specs.BlockValue.{BlockValue}
use Rattle.pending_queues.specs.Labelled.{times_at}
use Rattle.pending_queues.specs.PassValue.{position_of}
use Rattle.pending_queues.specs.PendingValue.{SeatValue}
use Rattle.pending_queues.specs.declared.exports.deliveries.Delivery.{Delivery}

-- how many seats have that number
abbrev pub seats_numbered : {A K : Type 0} → ℕ → List (SeatValue A K) → ℕ
seats_numbered index seats = sum_by (λ s. if s.index == index then 1 else 0) seats

-- 1 where the taker is that seat, else 0
abbrev pub is_taker : ℕ → Option ℕ → ℕ
is_taker seat None = 0
is_taker seat (Some t) = if t == seat then 1 else 0

-- 1 where the delivery at the position names that seat as its taker, else 0
abbrev pub names_taker : List Delivery → ℕ → ℕ → ℕ
names_taker deliveries position seat = is_taker seat (option_and_then (λ d. d.taker) (slice_get deliveries position))

-- the block's label names one of so many exporters
abbrev pub IsLabelledBelow : ℕ → BlockValue → Type 0
IsLabelledBelow exporters block = IsSomeAnd block.sent (λ label. label.0 < exporters)

module _ {A K : Type 0} where
  -- what became of the blocks that one seat exported
  pub record IsDelivered (seats : List (SeatValue A K)) (exporter : SeatValue A K) (deliveries : List Delivery) : Type 0 where
    -- one for each position, with the number of objects that the block was sent with
    pub objects : map (λ d. d.objects) deliveries ≡ map (λ b. length b.objects) exporter.sent
    -- the first so many positions were taken, the others are left
    pub count : ℕ
    pub front : (position : ℕ) (d : Delivery) → slice_get deliveries position ≡ Some d → is_some d.taker ≡ nat_lt position count
    pub few : count ≤ length deliveries
    -- each position has the taker named, once, and no other
    pub takers : All (λ s. (position : ℕ) → times_at exporter.index position s.taken ≡ names_taker deliveries position s.index) seats
    -- all seats together took each of the first so many positions once, and no other
    pub once : (position : ℕ) → sum_by (λ s. times_at exporter.index position s.taken) seats ≡ one_if (nat_lt position count)
    -- a block that was taken is, whole, the one exported at its label
    pub as_sent : All (λ s. All (λ b. b.sent ≡ Some (exporter.index, position_of b) → slice_get exporter.sent (position_of b) ≡ Some b) s.taken) seats
    -- what the exporter knew to be taken is taken
    pub cleared : exporter.cleared ≤ count

  -- the lists of deliveries, one for each exporter, tell what became of each block that the seats exported
  pub record AreDelivered (seats : List (SeatValue A K)) (lists : List (List Delivery)) : Type 0 where
    -- a list for each exporter, by its number, which one seat has
    pub many : length lists ≡ length seats
    pub numbers : (index : ℕ) → index < length seats → seats_numbered index seats ≡ 1
    pub each : All (λ s. IsDelivered seats s (slice_index_or lists s.index [])) seats
    -- each block that was taken carries the label of one of them
    pub labels : All (λ s. All (IsLabelledBelow (length seats)) s.taken) seats
