-- What the passes and marks of several seats say together.
use Rattle.std.specs.Prelude.{◌≡◌, ℕ, ◌≤◌, ◌==◌, List, All, length, flat_map, nat_lt, slice_get, Some}
use Rattle.std.specs.List.{sum_by}
use Rattle.crossbeam_queue.specs.SegTies.{SegId}
use Rattle.block_pool.specs.BlockValue.{BlockValue}
use Rattle.model.specs.Total.{one_if}
use Rattle.pending_queues.specs.PassValue.{PassValue, IsWhole, position_of}
use Rattle.pending_queues.specs.PendingValue.{SeatValue}
use Rattle.pending_queues.specs.TallyValue.{TallySeatValue}
use Rattle.pending_queues.specs.Labelled.{times_at}
use Rattle.pending_queues.specs.Delivered.{seats_numbered}
use Rattle.pending_queues.specs.SeatPass.{AtEach, sent_to, taken_from}

module _ {A K : Type 0} where
  -- what the seats sent to one exporter's queue, and what they took from it
  abbrev pub all_sent_to : ℕ → List (SeatValue A K) → List BlockValue
  all_sent_to exporter seats = flat_map (λ s. sent_to exporter s.index s.sent) seats

  abbrev pub all_taken_from : ℕ → List (SeatValue A K) → List BlockValue
  all_taken_from exporter seats = flat_map (λ s. taken_from exporter s.taken) seats

  -- the passes of these seats of one exporter's queue, gathered
  abbrev pub gathered_pass : SegId A → K → ℕ → List (SeatValue A K) → ℕ → PassValue A K
  gathered_pass lane key count seats exporter = record {
    lane = lane;
    about = record { key = key; exporter = exporter; seats = count };
    parts = length seats;
    senders = sum_by (λ (s : SeatValue A K). one_if (exporter == s.index)) seats;
    sent = all_sent_to exporter seats;
    taken = all_taken_from exporter seats;
  }

  abbrev pub AreGathered : K → ℕ → List (SeatValue A K) → List (PassValue A K) → Type 0
  AreGathered key count seats passes = AtEach (λ u p. p ≡ gathered_pass p.lane key count seats u) passes

  -- the marks of these seats of one exporter's tally, gathered: each take raised it, and what its own seat knows to be taken was seen
  pub record IsGatheredMark (seats : List (SeatValue A K)) (exporter : ℕ) (mark : TallySeatValue) : Type 0 where
    pub parts : mark.parts ≡ length seats
    pub raised : mark.raised ≡ length (all_taken_from exporter seats)
    pub seen : All (λ s. s.index ≡ exporter → s.cleared ≤ mark.seen) seats

  -- a queue that is settled
  pub record IsSettled (p : PassValue A K) : Type 0 where
    pub whole : IsWhole p
    pub few : length p.taken ≤ length p.sent

  -- What the gathered passes and marks tell of one exporter's queue: one seat has that number; the first blocks were taken, each once and as it was sent; and what the exporter knew to be taken is
  pub record IsTold (seats : List (SeatValue A K)) (exporter : ℕ) : Type 0 where
    pub one : seats_numbered exporter seats ≡ 1
    pub as_sent : All (λ b. slice_get (all_sent_to exporter seats) (position_of b) ≡ Some b) (all_taken_from exporter seats)
    pub once : (position : ℕ) → times_at exporter position (all_taken_from exporter seats) ≡ one_if (nat_lt position (length (all_taken_from exporter seats)))
    pub few : length (all_taken_from exporter seats) ≤ length (all_sent_to exporter seats)
    pub cleared : All (λ s. s.index ≡ exporter → s.cleared ≤ length (all_taken_from exporter seats)) seats
