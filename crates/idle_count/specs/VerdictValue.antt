-- A verdict and its seats, as callers see them.
use Rattle.std.specs.Prelude.{ℕ, Bool, false, Option, None}
use Rattle.idle_count.specs.declared.cause.Cause.{Cause}

-- the verdict as contracts see it
pub record VerdictValue : Type 0 where
  -- what no other verdict has
  pub name : ℕ

-- a seat as contracts see it
pub record VerdictSeatValue : Type 0 where
  -- the verdict that it belongs to
  pub name : ℕ
  -- the cause that stands, once the seat knows it
  pub known : Option Cause
  -- whether it was its own raise that gave the verdict
  pub won : Bool

-- a seat that knows no cause
abbrev pub untold : VerdictValue → VerdictSeatValue
untold verdict = record { name = verdict.name; known = None; won = false }
