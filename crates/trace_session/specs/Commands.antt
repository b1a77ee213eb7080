-- Commands that make no object, and what asks for no collection.
use Rattle.std.specs.Prelude.{Option, Some, Result, Ok}
use Rattle.model.specs.declared.kind.Kind.{Kind}
use Rattle.model.specs.Commands.{Command, New, Collect}

abbrev pub MakesNone : Command → Type 0
MakesNone (New text mutator p q) = ⊥
MakesNone _ = Unit {0}

-- what was read is no command to collect
abbrev pub IsNoCollection : Result (Option Command) Kind → Type 0
IsNoCollection (Ok (Some (Collect g))) = ⊥
IsNoCollection _ = Unit {0}
