-- How collections are carried out.
use Rattle.std.specs.Prelude.{ℕ}
use Rattle.collector.specs.declared.apart.CellKind.{CellKind}

-- so many workers, over cells of that kind
pub record CrewValue : Type 0 where
  pub workers : ℕ
  pub kind : CellKind
