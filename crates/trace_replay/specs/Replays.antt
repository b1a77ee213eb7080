-- What the lines of a trace print where each collection has a schedule.
use Rattle.std.specs.Prelude.{◌≡◌, ℕ, ◌+◌, ◌⊎◌, List, [], ◌∷◌, ◌++◌, length, map, Some, Ok}
use Rattle.heap_text.specs.Streams.{Output, Appends}
use Rattle.model.specs.Config.{Config}
use Rattle.model.specs.Store.{Store, empty_store}
use Rattle.model.specs.Commands.{Collect}
use Rattle.steps.specs.HeapValue.{HeapValue, empty_heap}
use Rattle.steps.specs.ReportValue.{WorkerLists}
use Rattle.steps.specs.declared.heap_values.report.Delivery.{Delivery}
use Rattle.workers.specs.System.{System}
use Rattle.settling.specs.Collects.{Collects, setting_at, opening_at}
use Rattle.settling.specs.Together.{Reports}
use Rattle.heap_text.specs.ReportText.{workers_text}
use Rattle.trace_text.specs.Grammar.{entry_of}
use Rattle.trace_text.specs.ScheduleGrammar.{schedule_line_of}
use Rattle.trace_text.specs.declared.schedule.ScheduleLine.TheVariants.{Commit}
use Rattle.trace_session.specs.Pieces.{Piece, finished, pieces}
use Rattle.trace_session.specs.CollectsFirst.{LineCollectsFirst, auto_line}
use Rattle.trace_session.specs.Outcome.{line_step, command_step}
use Rattle.trace_session.specs.Commands.{IsNoCollection}
use Rattle.trace_session.specs.Does.{LineDoes}
use Rattle.trace_session.specs.Stands.{StandsFor}
use Rattle.trace_session.specs.declared.session.Session.{Session}
use Rattle.trace_replay.specs.Runs.{Finishes, LinesRun}

-- a heap with its named roots, and the store that they stand for
pub record State : Type 0 where
  pub heap : HeapValue
  pub names : List (List ℕ × ℕ)
  pub store : Store

abbrev pub state_of : {A : Type 0} → Session A → Store → State
state_of session store = record { heap = session.heap; names = session.names; store = store }

abbrev pub Holds : Config → State → Type 0
Holds config s = StandsFor s.heap s.names config s.store

-- a line outside schedules that needs no collection does what it does in any run, and to this heap what its command does
pub record Steps (config : Config) (old : State) (line out : List ℕ) (new : State) : Type 0 where
  pub plain : IsNoCollection (entry_of line)
  pub has_room : ¬ LineCollectsFirst config old.store line
  pub steps : line_step config old.store line ≡ Ok (new.store, out)
  pub does : LineDoes old.heap old.names (entry_of line) new.heap new.names
  pub holds : Holds config new

-- n workers collect generation 0 for a new object, each event the one that comes next by itself, and leave this heap; what is written tells of the collection, and then of what they did in the heap as it then was
pub record MakesRoom (n : ℕ) (old : State) (written : List ℕ) (new : HeapValue) : Type 0 where
  pub kept : ℕ
  pub freed : ℕ
  pub workers : List WorkerLists
  pub deliveries : List Delivery
  pub collects : Collects old.heap 0 kept freed workers new
  pub last : System
  pub finishes : Finishes (setting_at old.heap 0 n) (opening_at old.heap 0 n) last
  pub reports_are : Reports old.heap 0 last workers deliveries
  pub written_is : written ≡ auto_line old.store ++ workers_text workers deliveries

abbrev pub HasMadeRoom : ℕ → State → (written : List ℕ) → Type 0
HasMadeRoom n old written = (between : HeapValue) × MakesRoom n old written between

-- a new object for which there is no room: the store is that of any run, and it is made in the heap that the collection leaves
pub record StepsWithRoom (config : Config) (n : ℕ) (old : State) (line out : List ℕ) (new : State) : Type 0 where
  pub first : LineCollectsFirst config old.store line
  pub between : HeapValue
  pub makes_room : MakesRoom n old out between
  pub does : LineDoes between old.names (entry_of line) new.heap new.names
  pub steps : line_step config old.store line ≡ Ok (new.store, auto_line old.store)
  pub holds : Holds config new

-- a collection of the generations 0 to g by n workers, and the lines of its schedule: the store and the collection's line are those of any run, and the lines after that one tell of what the schedule's events brought the workers to, in the heap as it then was
pub record Collection (config : Config) (n g : ℕ) (old : State) (lines : List (List ℕ)) (out : List ℕ) (new : State) : Type 0 where
  pub front : List ℕ
  pub steps : command_step config old.store (Collect g) ≡ Ok (new.store, front)
  pub kept : ℕ
  pub freed : ℕ
  pub workers : List WorkerLists
  pub deliveries : List Delivery
  pub collects : Collects old.heap g kept freed workers new.heap
  pub last : System
  pub run : LinesRun (setting_at old.heap g n) (opening_at old.heap g n) lines last
  pub reports_are : Reports old.heap g last workers deliveries
  pub out_is : out ≡ front ++ workers_text workers deliveries
  pub names_are : new.names ≡ old.names
  pub holds : Holds config new

-- lines one after another, and what they print
pub data Replays (config : Config) (n : ℕ) : State → List Piece → List ℕ → State → Type 0 where
  stay : {s : State} → Replays config n s [] [] s
  step : {s mid last : State} {line out more : List ℕ} {rest : List Piece} → Steps config s line out mid → Replays config n mid rest more last → Replays config n s (finished line ∷ rest) (out ++ more) last
  with_room : {s mid last : State} {line out more : List ℕ} {rest : List Piece} → StepsWithRoom config n s line out mid → Replays config n mid rest more last → Replays config n s (finished line ∷ rest) (out ++ more) last
  collection : {g : ℕ} {s mid last : State} {line out more : List ℕ} {lines : List (List ℕ)} {rest : List Piece} (ends : List ℕ) → entry_of line ≡ Ok (Some (Collect g)) → Collection config n g s lines out mid → schedule_line_of ends ≡ Ok Commit → Replays config n mid rest more last → Replays config n s (finished line ∷ (map finished lines ++ finished ends ∷ rest)) (out ++ more) last

-- after a `collect` line with this number its schedule was carried out and printed, and leaves the rest of the text, from line number' on
pub record HasCollected (config : Config) (n g : ℕ) (old : State) (number : ℕ) (text : List ℕ) (number' : ℕ) (rest : List ℕ) (printed printed' : Output) (new : State) : Type 0 where
  pub lines : List (List ℕ)
  pub out : List ℕ
  pub collection : Collection config n g old lines out new
  pub ends : List ℕ
  pub commits : schedule_line_of ends ≡ Ok Commit
  pub pieces_are : pieces text ≡ map finished lines ++ finished ends ∷ pieces rest
  pub number_is : number' ≡ number + length lines + 2
  pub held : Appends printed printed' out

-- the same, where it leads to a store for which the session stands
pub record CollectsTo {A : Type 0} (session : Session A) (config : Config) (n g : ℕ) (old : State) (number : ℕ) (text : List ℕ) (number' : ℕ) (rest : List ℕ) (printed printed' : Output) : Type 0 where
  pub store' : Store
  pub collected : HasCollected config n g old number text number' rest printed printed' (state_of session store')

-- a line outside schedules was carried out and printed, and leads to a store for which the session stands
pub record LineReplayed {A : Type 0} (session : Session A) (config : Config) (n : ℕ) (old : State) (line : List ℕ) (printed printed' : Output) : Type 0 where
  pub store' : Store
  pub stands' : Holds config (state_of session store')
  pub out : List ℕ
  pub steps : Steps config old line out (state_of session store') ⊎ StepsWithRoom config n old line out (state_of session store')
  pub held : Appends printed printed' out

-- of the pieces that are left from line `number` on some were carried out and printed, and leave this text, from line number' on, and a store for which the session stands
pub record ReplaysTo {A : Type 0} (session : Session A) (config : Config) (n : ℕ) (old : State) (number : ℕ) (left : List Piece) (number' : ℕ) (rest : List ℕ) (printed printed' : Output) : Type 0 where
  pub store' : Store
  pub stands' : Holds config (state_of session store')
  pub lines : List Piece
  pub out : List ℕ
  pub replays : Replays config n old lines out (state_of session store')
  pub left_is : left ≡ lines ++ pieces rest
  pub number_is : number' ≡ number + length lines
  pub held : Appends printed printed' out

-- all pieces
pub record ReplaysAll (config : Config) (n : ℕ) (old : State) (all : List Piece) (printed printed' : Output) : Type 0 where
  pub last : State
  pub out : List ℕ
  pub replays : Replays config n old all out last
  pub held : Appends printed printed' out

-- a heap without objects, and no names
pub record IsFirst (config : Config) (s : State) : Type 0 where
  pub heap_is : s.heap ≡ empty_heap config
  pub names_are : s.names ≡ []
  pub store_is : s.store ≡ empty_store config

-- a whole text, from a heap without objects on
pub record IsReplayed (config : Config) (n : ℕ) (printed printed' : Output) (text : List ℕ) : Type 0 where
  pub first : State
  pub begins : IsFirst config first
  pub holds : Holds config first
  pub replays : ReplaysAll config n first (pieces text) printed printed'
