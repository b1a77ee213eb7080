-- What a seat's pass of one exporter's queue says, by what the seat sent and took.
use Rattle.std.specs.Prelude.{◌≡◌, ℕ, ◌==◌, if◌then◌else◌, Bool, false, List, [], length, map, slice_get, Option, Some, None}
use Rattle.std.specs.List.{filter}
use Rattle.crossbeam_queue.specs.SegTies.{SegId}
use Rattle.block_pool.specs.BlockValue.{BlockValue}
use Rattle.model.specs.Total.{one_if}
use Rattle.pending_queues.specs.PassValue.{PassValue}

-- F holds of each element, with its place
abbrev pub AtEach : {X : Type 0} → (ℕ → X → Type 0) → List X → Type 0
AtEach {X} F xs = (i : ℕ) (x : X) → slice_get xs i ≡ Some x → F i x

-- whether the label is that exporter's
abbrev pub has_exporter : ℕ → Option (ℕ × ℕ) → Bool
has_exporter exporter None = false
has_exporter exporter (Some label) = label.0 == exporter

abbrev pub is_from : ℕ → BlockValue → Bool
is_from exporter block = has_exporter exporter block.sent

-- those of the blocks that are that exporter's
abbrev pub taken_from : ℕ → List BlockValue → List BlockValue
taken_from exporter blocks = filter (is_from exporter) blocks

-- what a seat sent to that queue: all to its own, and nothing to the others
abbrev pub sent_to : ℕ → ℕ → List BlockValue → List BlockValue
sent_to exporter index sent = if exporter == index then sent else []

-- how many objects each block has
abbrev pub sizes_of : List BlockValue → List ℕ
sizes_of blocks = map (λ (b : BlockValue). length b.objects) blocks

module _ {A K : Type 0} where
  -- the pass that a seat has of one exporter's queue
  abbrev pub pass_of : SegId A → K → ℕ → ℕ → List BlockValue → List BlockValue → ℕ → PassValue A K
  pass_of lane key seats index sent taken exporter = record {
    lane = lane;
    about = record { key = key; exporter = exporter; seats = seats };
    parts = 1;
    senders = one_if (exporter == index);
    sent = sent_to exporter index sent;
    taken = taken_from exporter taken;
  }
