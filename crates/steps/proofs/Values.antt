-- The objects of entries.
use Rattle.std.proofs.Common.{ℕ, List, map}
use Rattle.model.specs.Graph.{Object}

abbrev pub values_of : List (ℕ × Object) → List Object
values_of es = map (λ e. e.1) es
