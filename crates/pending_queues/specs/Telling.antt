-- How closing the queues writes down what became of each block.
use Rattle.std.specs.Prelude.{List, [], ◌∷◌, length, map, slice_set}
use Rattle.block_pool.specs.BlockValue.{BlockValue}
use Rattle.pending_queues.specs.Written.{left, with_takers}
use Rattle.pending_queues.specs.declared.exports.deliveries.Delivery.{Delivery}
use Rattle.pending_queues.specs.PendingValue.{SeatValue}

-- what is told of blocks before anyone is named
abbrev pub all_left : List BlockValue → List Delivery
all_left blocks = map (λ (b : BlockValue). left (length b.objects)) blocks

module _ {A K : Type 0} where
  -- each seat's exports are told in its list
  abbrev pub placed : List (List Delivery) → List (SeatValue A K) → List (List Delivery)
  placed lists [] = lists
  placed lists (s ∷ seats) = placed (slice_set lists s.index (all_left s.sent)) seats

  -- each seat is named as the taker of what it took
  abbrev pub named : List (List Delivery) → List (SeatValue A K) → List (List Delivery)
  named lists [] = lists
  named lists (s ∷ seats) = named (with_takers lists s.index (map (λ (b : BlockValue). b.sent) s.taken)) seats
