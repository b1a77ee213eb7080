-- What the lines of a schedule do to the workers of a collection.
use Rattle.std.specs.Prelude.{◌≡◌, ℕ, ◌+◌, List, [], ◌∷◌, ◌++◌, length, map, Ok}
use Rattle.workers.specs.Setting.{Setting}
use Rattle.workers.specs.System.{System}
use Rattle.workers.specs.Steps.{Step}
use Rattle.workers.specs.Lawful.{AllEnded, next_lawful}
use Rattle.workers.specs.Finish.{Stepped}
use Rattle.trace_text.specs.ScheduleGrammar.{schedule_line_of}
use Rattle.trace_text.specs.declared.schedule.ScheduleLine.{ScheduleLine}
use Rattle.trace_text.specs.declared.schedule.ScheduleLine.TheVariants.{Nothing, Event, Finish, Commit}
use Rattle.trace_session.specs.Pieces.{finished, pieces}
use Rattle.trace_replay.specs.Naming.{meant}
use Rattle.machine.specs.MachineValue.{MachineValue, setting_in}
use Rattle.machine.specs.Events.{IsSameCollection}
use Rattle.trace_replay.specs.declared.schedules.lines.Progress.{Progress}
use Rattle.trace_replay.specs.declared.schedules.lines.Progress.TheVariants.{GoesOn, Ends}

-- what comes next by itself comes, until all have ended
pub record Finishes (setting : Setting) (old new : System) : Type 0 where
  pub count : ℕ
  pub run : Stepped setting (next_lawful setting) old count new
  pub ended : AllEnded new

-- what a line says comes; `commit` ends the schedule, and brings the workers nowhere
abbrev pub Brings : Setting → System → ScheduleLine → System → Type 0
Brings setting old Nothing new = new ≡ old
Brings setting old (Event event) new = Step setting old (meant event) new
Brings setting old Finish new = Finishes setting old new
Brings setting old Commit new = ⊥

-- lines without their line feeds, one after another
pub data LinesRun (setting : Setting) : System → List (List ℕ) → System → Type 0 where
  stay : {s : System} → LinesRun setting s [] s
  go : {s mid last : System} {line : List ℕ} {said : ScheduleLine} {lines : List (List ℕ)} → schedule_line_of line ≡ Ok said → Brings setting s said mid → LinesRun setting mid lines last → LinesRun setting s (line ∷ lines) last

-- in a machine: all that comes next by itself
pub record Finished (old new : MachineValue) : Type 0 where
  pub same : IsSameCollection old new
  pub finishes : Finishes (setting_in old) old.system new.system

-- what a line says
pub record BringsOn (line : List ℕ) (old new : MachineValue) : Type 0 where
  pub said : ScheduleLine
  pub says : schedule_line_of line ≡ Ok said
  pub same : IsSameCollection old new
  pub brings : Brings (setting_in old) old.system said new.system

-- the schedule goes on after what the line says, or the line is its last
abbrev pub Answers : Progress → List ℕ → MachineValue → MachineValue → Type 0
Answers GoesOn line old new = BringsOn line old new
Answers Ends line old new = (schedule_line_of line ≡ Ok Commit) × (new ≡ old)

-- from line `number` of a text on, lines bring the workers on, up to `commit`, whose number is this, and leave the rest of the text
pub record IsSchedule (setting : Setting) (first : System) (number : ℕ) (text : List ℕ) (commit : ℕ) (rest : List ℕ) (last : System) : Type 0 where
  pub lines : List (List ℕ)
  pub run : LinesRun setting first lines last
  pub ends : List ℕ
  pub commits : schedule_line_of ends ≡ Ok Commit
  pub pieces_are : pieces text ≡ map finished lines ++ finished ends ∷ pieces rest
  pub number_is : commit ≡ number + length lines
