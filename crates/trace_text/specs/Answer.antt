-- What `parse` answers, beside what is read.
use Rattle.std.specs.Prelude.{◌≡◌, Option, Some, None, Result, Ok, Err}
use Rattle.model.specs.declared.kind.Kind.{Kind}
use Rattle.model.specs.Commands.{Command, command_of}
use Rattle.trace_text.specs.declared.line.Line.{Line}
use Rattle.trace_text.specs.declared.line.Line.TheVariants as lines

-- what a function answered, seen by view, is what is read
abbrev pub Gives : {X Y : Type 0} → (X → Y) → Result X Kind → Result Y Kind → Type 0
Gives view (Ok x) read = read ≡ Ok (view x)
Gives view (Err e) read = read ≡ Err e

-- the command of a line
abbrev pub view : Line → Option Command
view lines.Nothing = None
view (lines.Command command) = Some (command_of command)
