-- How what became of each block is written down.
use Rattle.std.specs.Prelude.{ℕ, List, [], ◌∷◌, slice_set, slice_index_or, Option, Some, None}
use Rattle.pending_queues.specs.declared.exports.deliveries.Delivery.{Delivery}

-- a block of that many objects, which nobody took
abbrev pub left : ℕ → Delivery
left objects = record { objects = objects; taker = None }

-- the taker of the block at a position is named
abbrev pub with_name : List Delivery → ℕ → ℕ → List Delivery
with_name list position taker = slice_set list position (record (slice_index_or list position (left 0)) { taker = Some taker })

-- the taker of the block with that label is named
abbrev pub with_taker : List (List Delivery) → ℕ → Option (ℕ × ℕ) → List (List Delivery)
with_taker lists taker None = lists
with_taker lists taker (Some label) = slice_set lists label.0 (with_name (slice_index_or lists label.0 []) label.1 taker)

-- the taker of the blocks with these labels is named
abbrev pub with_takers : List (List Delivery) → ℕ → List (Option (ℕ × ℕ)) → List (List Delivery)
with_takers lists taker [] = lists
with_takers lists taker (label ∷ labels) = with_takers (with_taker lists taker label) taker labels
