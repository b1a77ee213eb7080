-- What a collection of the generations 0 to g keeps.
use Rattle.std.specs.Prelude.{◌≡◌, ℕ, ◌<◌, ◌≤◌, Some, ◌⊎◌}
use Rattle.model.specs.Graph.{Graph, Object, object_at, root_at, field_at}
use Rattle.model.specs.Reached.{Reached}

-- an object of generation at most g
pub record IsYoung (graph : Graph) (g name : ℕ) : Type 0 where
  pub object : Object
  pub there : object_at graph name ≡ Some object
  pub young : object.generation ≤ g

-- an object of generation above g
pub record IsOlder (graph : Graph) (g name : ℕ) : Type 0 where
  pub object : Object
  pub there : object_at graph name ≡ Some object
  pub older : g < object.generation

-- a root leads to the target
pub record IsRooted (graph : Graph) (target : ℕ) : Type 0 where
  pub root : ℕ
  pub leads : root_at graph root ≡ Some target

-- pointer i of an object older than g, live or dead, leads to the target
pub record IsOldSlot (graph : Graph) (g name i target : ℕ) : Type 0 where
  pub holder : IsOlder graph g name
  pub leads : field_at graph name i ≡ Some (Some target)

-- an object of generation at most g to which a root or an old slot leads
abbrev pub IsStart : Graph → ℕ → ℕ → Type 0
IsStart graph g target = IsYoung graph g target × (IsRooted graph target ⊎ ((name : ℕ) × ((i : ℕ) × IsOldSlot graph g name i target)))

-- some pointer of the first leads to the second, of generation at most g
pub record IsEdge (graph : Graph) (g name target : ℕ) : Type 0 where
  pub i : ℕ
  pub leads : field_at graph name i ≡ Some (Some target)
  pub young : IsYoung graph g target

-- reached from roots and old slots through objects of generation at most g
abbrev pub Live : Graph → ℕ → ℕ → Type 0
Live graph g = Reached (IsEdge graph g) (IsStart graph g)
