-- The label that an exported block carries.
use Rattle.std.specs.Prelude.{ℕ, ◌==◌, ◌&&◌, if◌then◌else◌, Bool, false, List, Option, Some, None}
use Rattle.std.specs.List.{sum_by}
use Rattle.block_pool.specs.BlockValue.{BlockValue}

-- the block as this seat exports it, at this position among its exports
abbrev pub labelled : ℕ → ℕ → BlockValue → BlockValue
labelled exporter position block = record block { sent = Some (exporter, position) }

abbrev pub is_label : ℕ → ℕ → Option (ℕ × ℕ) → Bool
is_label exporter position None = false
is_label exporter position (Some label) = (label.0 == exporter) && (label.1 == position)

-- how many of the blocks are this exporter's at this position
abbrev pub times_at : ℕ → ℕ → List BlockValue → ℕ
times_at exporter position blocks = sum_by (λ (b : BlockValue). if is_label exporter position b.sent then 1 else 0) blocks
