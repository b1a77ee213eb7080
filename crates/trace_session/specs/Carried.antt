-- What carrying out the first lines of a text does, whatever follows the text.
use Rattle.std.specs.Prelude.{◌≡◌, ℕ, ◌+◌, ◌-◌, ◌≤◌, List, [], ◌++◌, take, Option, Some, None, slice_get}
use Rattle.heap_text.specs.Streams.{Output, Appends}
use Rattle.model.specs.declared.kind.Kind.{Kind}
use Rattle.model.specs.Config.{Config}
use Rattle.model.specs.Store.{Store, empty_store}
use Rattle.model.specs.Commands.{Run}
use Rattle.trace_session.specs.Pieces.{finished, pieces, whole_lines}
use Rattle.trace_session.specs.Outcome.{outcome_from, outcome_before}

-- P of a store and a line that has written nothing
abbrev pub Silently : (Store → List ℕ → Type 0) → Store → List ℕ → (written : List ℕ) → Type 0
Silently P store line written = P store line × (written ≡ [])

-- the lines before a line of the text are printed and have no fault, and then what that line has written; P holds of the store before
-- the line, of the line and of what it has written
pub record LeavesBefore (P : Store → List ℕ → List ℕ → Type 0) (config : Config) (number : ℕ) (store : Store) (text : List ℕ) (line : Option ℕ) (old new : Output) : Type 0 where
  pub out : List ℕ
  pub lines : ℕ
  pub store' : Store
  pub refused : List ℕ
  pub written : List ℕ
  pub line_is : line ≡ Some (number + lines)
  pub held : Appends old new (out ++ written)
  pub printed : (more : List ℕ) → outcome_from config number store (take lines (pieces (text ++ more))) ≡ record { store = store'; output = out; fault = None }
  pub there : (more : List ℕ) → slice_get (pieces (text ++ more)) lines ≡ Some (finished refused)
  pub holds : P store' refused written

-- what is printed is the output of the lines before this line, which have no fault, and what it has written; P holds of the store
-- before it, of its text and of what it has written
pub record LeavesOutput (P : Store → List ℕ → List ℕ → Type 0) (config : Config) (line : ℕ) (old new : Output) (input : List ℕ) : Type 0 where
  pub refused : List ℕ
  pub written : List ℕ
  pub counted : 1 ≤ line
  pub there : slice_get (pieces input) (line - 1) ≡ Some (finished refused)
  pub sound : (outcome_before config line input).fault ≡ None
  pub held : Appends old new ((outcome_before config line input).output ++ written)
  pub holds : P (outcome_before config line input).store refused written

-- what is printed is the run's output, and its fault is this one
pub record Prints (run : Run) (fault : Option (ℕ × Kind)) (old new : Output) : Type 0 where
  pub fault_is : run.fault ≡ fault
  pub held : Appends old new run.output

-- what is printed is the output of the lines that are whole, which have no fault
abbrev pub PrintsWholeLines : Config → (old new : Output) → List ℕ → Type 0
PrintsWholeLines config old new text = Prints (outcome_from config 1 (empty_store config) (whole_lines (pieces text))) None old new
