-- What one worker by itself exported, as the report tells it.
use Rattle.std.specs.Prelude.{ℕ, List, length, map, min}
use Rattle.std.specs.List.{enumerate_from}
use Rattle.steps.specs.declared.heap_values.report.Delivery.{Delivery}
use Rattle.workers.specs.Block.{Block}

-- the worker's export at a position, which it took itself; a number of objects that has no room is the greatest that has
abbrev pub own_delivery : ℕ × ℕ → Delivery
own_delivery e = record { exporter = 0; position = e.0; objects = min e.1 4294967295; taker = 0 }

-- of exports with so many objects, in order
abbrev pub deliveries_of_sizes : List ℕ → List Delivery
deliveries_of_sizes sizes = map own_delivery (enumerate_from 0 sizes)

-- these blocks were exported, and taken by the worker itself
abbrev pub own_deliveries : List Block → List Delivery
own_deliveries exports = deliveries_of_sizes (map (λ (b : Block). length b.copies) exports)
