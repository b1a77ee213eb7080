-- Queues that threads share, and their seats, as callers see them.
use Rattle.std.specs.Prelude.{◌≡◌, ℕ, ◌<◌, ◌==◌, if◌then◌else◌, List, [], ◌∷◌, ◌++◌, length, map}
use Rattle.std.specs.List.{range_with_len}
use Rattle.atomic_table.specs.Seated.{TableId}
use Rattle.crossbeam_queue.specs.SegTies.{SegId}
use Rattle.block_pool.specs.BlockValue.{BlockValue}
use Rattle.pending_queues.specs.Labelled.{labelled}

-- which queues: the key that their seats know, and a queue and a tally for each exporter, which no other queues have
pub record Source (A K : Type 0) : Type 0 where
  pub key : K
  pub lanes : List (SegId A)
  pub tallies : List TableId

pub record SeatValue (A K : Type 0) : Type 0 where
  -- which queues it is of
  pub source : Source A K
  -- its number, which is that of its own queue
  pub index : ℕ
  -- the blocks that it exported, in order, each with its label
  pub sent : List BlockValue
  -- the blocks that it took, in order, each as its exporter sent it
  pub taken : List BlockValue
  -- so many of its exports, from the first on, are known to be taken, for good
  pub cleared : ℕ

module _ {A K : Type 0} where
  -- the seat belongs to these queues, and has a queue of its own
  pub record IsSeatOf (source : Source A K) (seat : SeatValue A K) : Type 0 where
    pub of : seat.source ≡ source
    pub own : seat.index < length source.lanes

  -- a seat that has exported and taken nothing
  abbrev pub new_seat : Source A K → ℕ → SeatValue A K
  new_seat source index = record { source = source; index = index; sent = []; taken = []; cleared = 0 }

  -- so many seats, numbered from 0
  abbrev pub new_seats : Source A K → ℕ → List (SeatValue A K)
  new_seats source count = map (new_seat source) (range_with_len 0 count)

  -- the seat's next export, labelled
  abbrev pub next_export : SeatValue A K → BlockValue → BlockValue
  next_export seat block = labelled seat.index (length seat.sent) block

  abbrev pub after_export : SeatValue A K → BlockValue → SeatValue A K
  after_export seat block = record seat { sent = seat.sent ++ next_export seat block ∷ [] }

  abbrev pub after_take : SeatValue A K → BlockValue → SeatValue A K
  after_take seat block = record seat { taken = seat.taken ++ block ∷ [] }

  -- the seat found nothing in this exporter's queue. Of its own it then knows that each of its exports is taken
  abbrev pub after_none : SeatValue A K → ℕ → SeatValue A K
  after_none seat exporter = if seat.index == exporter then record seat { cleared = length seat.sent } else seat
