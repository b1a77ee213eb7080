-- The first step of a heap.
use Rattle.std.proofs.Common.{◌-◌, ◌<◌, ◌≤◌, Bool, true, false, cond, arith}
use Rattle.std.specs.Prelude.{nat_lt}
use Rattle.model.specs.Destination.{Shape, IsStep}

pub first_step : (shape : Shape) → 1 ≤ shape.generations → 1 ≤ shape.steps → IsStep shape (0, 0)
first_step shape some many = record { generation = omega arith; step = go (nat_lt 0 (shape.generations - 1)) }
  where
    go : (b : Bool) → 0 < cond b shape.steps 1
    go true = omega arith
    go false = omega arith
