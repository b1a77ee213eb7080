-- Lines and commands that have no fault.
use Rattle.std.specs.Prelude.{◌≡◌, ℕ, ◌<◌, ◌≤◌, ◌⊎◌, List, IsOk, IsTrue}
use Rattle.model.specs.Config.{Config}
use Rattle.model.specs.Store.{Store}
use Rattle.model.specs.Commands.{Command, is_too_big}
use Rattle.model.specs.declared.kind.Kind.{Kind}
use Rattle.model.specs.declared.kind.Kind.TheVariants.{NoMutator, TooBig}
use Rattle.trace_session.specs.Outcome.{line_step, command_step}

-- the line has no fault at this store
abbrev pub IsSoundTraceLine : Config → Store → List ℕ → Type 0
IsSoundTraceLine config store line = IsOk (line_step config store line)

-- the same of a command
abbrev pub IsSoundCommand : Config → Store → Command → Type 0
IsSoundCommand config store command = IsOk (command_step config store command)

-- what is wrong with a new object under a free name, whatever the store holds: there is no such mutator, or it has too many fields
abbrev pub IsFaultOfNew : Config → ℕ → ℕ → ℕ → Kind → Type 0
IsFaultOfNew config mutator p q kind = ((kind ≡ NoMutator) × (config.mutators ≤ mutator)) ⊎ ((kind ≡ TooBig) × (mutator < config.mutators) × IsTrue (is_too_big p q))
