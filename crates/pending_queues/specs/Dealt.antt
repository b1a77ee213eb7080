-- What is left to deal while the seats are made, in order.
use Rattle.std.specs.Prelude.{◌≡◌, ℕ, ◌-◌, if◌then◌else◌, List, [], All, length, map, nat_lt, slice_get, Some}
use Rattle.atomic_table.specs.Seated.{TableId}
use Rattle.crossbeam_queue.specs.SegTies.{SegId}
use Rattle.pending_queues.specs.PassValue.{PassValue}
use Rattle.pending_queues.specs.TallyValue.{TallySeatValue, unraised}
use Rattle.pending_queues.specs.SeatPass.{AtEach, pass_of}

module _ {A K : Type 0} where
  -- the first pass of a queue, of which so many seats have their part
  abbrev pub root_of : SegId A → K → ℕ → ℕ → ℕ → PassValue A K
  root_of lane key seats dealt exporter = record {
    lane = lane;
    about = record { key = key; exporter = exporter; seats = seats };
    parts = seats - dealt;
    senders = if nat_lt exporter dealt then 0 else 1;
    sent = [];
    taken = [];
  }

  -- the first passes of these queues, of which so many seats have their parts
  pub record AreRoots (key : K) (lanes : List (SegId A)) (seats dealt : ℕ) (roots : List (PassValue A K)) : Type 0 where
    pub of : map (λ p. p.lane) roots ≡ lanes
    pub roots_are : AtEach (λ u p. p ≡ root_of p.lane key seats dealt u) roots

  -- the passes of one seat that has sent and taken nothing
  pub record AreNewPasses (key : K) (lanes : List (SegId A)) (seats index : ℕ) (passes : List (PassValue A K)) : Type 0 where
    pub of : map (λ p. p.lane) passes ≡ lanes
    pub passes_are : AtEach (λ u p. p ≡ pass_of p.lane key seats index [] [] u) passes

-- of each tally, that many marks, with which nothing was raised
pub record AreHeaps {X : Type 0} (names : List TableId) (left : ℕ) (marks : X → List TallySeatValue) (heaps : List X) : Type 0 where
  pub many : length heaps ≡ length names
  pub sizes : AtEach (λ u heap. length (marks heap) ≡ left) heaps
  pub each : (u : ℕ) (name : TableId) (heap : X) → slice_get names u ≡ Some name → slice_get heaps u ≡ Some heap → All (λ m. m ≡ unraised name) (marks heap)
