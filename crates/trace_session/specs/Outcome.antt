-- What a trace prints, and its first fault.
use Rattle.std.specs.Prelude.{ℕ, ◌+◌, ◌-◌, nat_lt, take, List, [], ◌∷◌, ◌++◌, length, Option, Some, None, Ok, Err, if◌then◌else◌}
use Rattle.model.specs.declared.kind.Kind.TheVariants.{LineTooLong, UnfinishedLine}
use Rattle.model.specs.Config.{Config}
use Rattle.model.specs.Store.{Store, empty_store}
use Rattle.model.specs.Commands.{Command, Run, carried, Outcome as Stepped}
use Rattle.trace_text.specs.Grammar.{entry_of, ◌>>=◌}
use Rattle.trace_session.specs.Pieces.{Piece, finished, unfinished, pieces}

-- the store after a command, and what the command prints
abbrev pub command_step : Config → Store → Command → Stepped
command_step config store command = carried config store command

-- the store after a line, and what the line prints
abbrev pub entry_step : Config → Store → Option Command → Stepped
entry_step config store None = Ok (store, [])
entry_step config store (Some command) = command_step config store command

unfoldable pub line_step : Config → Store → List ℕ → Stepped
line_step config store line = entry_of line >>= entry_step config store

abbrev pub piece_step : Config → Store → Piece → Stepped
piece_step config store (finished line) = line_step config store line
piece_step config store (unfinished line) = if nat_lt 4096 (length line) then Err LineTooLong else Err UnfinishedLine

abbrev pub after : List ℕ → Run → Run
after front rest = record { store = rest.store; output = front ++ rest.output; fault = rest.fault }

abbrev pub then_from : ℕ → Store → Stepped → (Store → Run) → Run
then_from number store (Ok done) rest = after done.1 (rest done.0)
then_from number store (Err kind) rest = record { store = store; output = []; fault = Some (number, kind) }

-- from a line on, with the store before it
abbrev pub outcome_from : Config → ℕ → Store → List Piece → Run
outcome_from config number store [] = record { store = store; output = []; fault = None }
outcome_from config number store (p ∷ ps) = then_from number store (piece_step config store p) (λ next. outcome_from config (number + 1) next ps)

-- of a whole text, whose lines are numbered from 1
abbrev pub outcome : Config → List ℕ → Run
outcome config text = outcome_from config 1 (empty_store config) (pieces text)

-- of the lines before a line alone
abbrev pub outcome_before : Config → ℕ → List ℕ → Run
outcome_before config line text = outcome_from config 1 (empty_store config) (take (line - 1) (pieces text))
