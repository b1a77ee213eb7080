-- Where the replay of a trace stops.
use Rattle.std.specs.Prelude.{◌≡◌, ℕ, ◌+◌, ◌-◌, ◌*◌, ◌^◌, ◌<◌, ◌⊎◌, MatchOption, IsTrue, List, [], ◌∷◌, ◌++◌, length, Some, Ok, Err}
use Rattle.heap_text.specs.Streams.{Input, Output, Appends, OfGiven, OfInput}
use Rattle.model.specs.Config.{Config}
use Rattle.model.specs.Commands.{Collect}
use Rattle.model.specs.declared.kind.Kind.{Kind}
use Rattle.settling.specs.Collects.{setting_at, opening_at}
use Rattle.trace_replay.specs.Events.{IsShortOfBlocks}
use Rattle.trace_text.specs.Grammar.{entry_of}
use Rattle.trace_text.specs.declared.schedule.ScheduleKind.{ScheduleKind}
use Rattle.trace_session.specs.Lines.{IsOutOfReads}
use Rattle.trace_session.specs.declared.trace_lines.fault.Fault.{Fault}
use Rattle.trace_session.specs.Faults.{never, AtFault}
use Rattle.trace_session.specs.Pieces.{Piece, finished, pieces, whole_lines}
use Rattle.trace_session.specs.Outcome.{piece_step}
use Rattle.trace_session.specs.Sound.{IsSoundTraceLine, IsSoundCommand}
use Rattle.trace_session.specs.CollectsFirst.{LineCollectsFirst}
use Rattle.trace_session.specs.Refusals.{IsFullFor}
use Rattle.trace_session.specs.Commands.{IsNoCollection}
use Rattle.trace_replay.specs.Stops.{IsUnreadable, IsRefusedBlocks, IsFullInTurn, IsSoundLine, OfLine, StopsAt, StopsWith, IsUsedUp}
use Rattle.trace_replay.specs.Replays.{State, Holds, HasMadeRoom, Replays, IsFirst, IsReplayed}

-- a `collect` line without a fault, and the text after it
pub record OpensSchedule (config : Config) (s : State) (left : List Piece) : Type 0 where
  pub line : List ℕ
  pub g : ℕ
  pub asks : entry_of line ≡ Ok (Some (Collect g))
  pub sound : IsSoundCommand config s.store (Collect g)
  pub text : List ℕ
  pub left_is : left ≡ finished line ∷ pieces text

-- P of what is left at a `collect` line, however it is written, with this text after it
abbrev pub AfterCollect : ℕ → List ℕ → (List Piece → Type 0) → Type 0
AfterCollect g text P = (line : List ℕ) → entry_of line ≡ Ok (Some (Collect g)) → P (finished line ∷ pieces text)

-- the piece with number `at` is a faulty line of the trace: the first of those that are left, or one of the schedule that it opens
pub data HasTraceFault (config : Config) (n : ℕ) (kind : Kind) (s : State) (number : ℕ) (left : List Piece) (at : ℕ) : Type 0 where
  outside : {p : Piece} {rest : List Piece} → left ≡ p ∷ rest → at ≡ number → piece_step config s.store p ≡ Err kind → HasTraceFault config n kind s number left at
  inside : (opens : OpensSchedule config s left) → StopsAt (IsUnreadable kind) (setting_at s.heap opens.g n) (opening_at s.heap opens.g n) (number + 1) opens.text at → HasTraceFault config n kind s number left at

-- it is a faulty line of the schedule
pub record HasScheduleFault (config : Config) (n : ℕ) (kind : ScheduleKind) (s : State) (number : ℕ) (left : List Piece) (at : ℕ) : Type 0 where
  pub opens : OpensSchedule config s left
  pub stops : StopsWith (setting_at s.heap opens.g n) (opening_at s.heap opens.g n) number opens.text at kind

-- a new object without a fault: a small one for which there is no room, and this heap is full for n workers who collect
-- generation 0, or a large one for which this heap is full
pub data WantsRoom (config : Config) (n : ℕ) (s : State) (line : List ℕ) : Type 0 where
  for_collection : IsSoundTraceLine config s.store line → LineCollectsFirst config s.store line → IsFullInTurn s.heap 0 n → WantsRoom config n s line
  for_large : IsSoundTraceLine config s.store line → IsNoCollection (entry_of line) → IsFullFor 1 s.heap (entry_of line) → WantsRoom config n s line

-- the line has no fault, and blocks are wanting in it
pub data WantsBlocks (config : Config) (n : ℕ) (s : State) (number : ℕ) (left : List Piece) (at : ℕ) : Type 0 where
  outside : {line : List ℕ} {rest : List Piece} → left ≡ finished line ∷ rest → at ≡ number → WantsRoom config n s line → WantsBlocks config n s number left at
  inside : (opens : OpensSchedule config s left) → StopsAt (OfLine (IsRefusedBlocks (setting_at s.heap opens.g n))) (setting_at s.heap opens.g n) (opening_at s.heap opens.g n) (number + 1) opens.text at → IsShortOfBlocks s.heap opens.g n → WantsBlocks config n s number left at

-- a line without a fault, so far as it was carried out: it has written nothing yet, or of the collection that came first
abbrev pub IsLineSoFar : Config → ℕ → State → List ℕ → (written : List ℕ) → Type 0
IsLineSoFar config n s line written = IsSoundTraceLine config s.store line × ((written ≡ []) ⊎ (LineCollectsFirst config s.store line × HasMadeRoom n s written))

-- it has no fault, and has written so much
pub data IsSoundAt (config : Config) (n : ℕ) (s : State) (number : ℕ) (left : List Piece) (at : ℕ) (written : List ℕ) : Type 0 where
  outside : {line : List ℕ} {rest : List Piece} → left ≡ finished line ∷ rest → at ≡ number → IsLineSoFar config n s line written → IsSoundAt config n s number left at written
  inside : (opens : OpensSchedule config s left) → StopsAt (OfLine (IsSoundLine (setting_at s.heap opens.g n))) (setting_at s.heap opens.g n) (opening_at s.heap opens.g n) (number + 1) opens.text at → written ≡ [] → IsSoundAt config n s number left at written

-- P of a line that has written nothing
abbrev pub Quietly : (State → ℕ → List Piece → ℕ → Type 0) → State → ℕ → List Piece → ℕ → (written : List ℕ) → Type 0
Quietly P s number left at written = P s number left at × (written ≡ [])

-- from line `number` on lines were carried out and printed, and then what line `at` has written; P holds of where they lead, of the number of the next line, of all pieces that are left, of line `at` and of what it has written
pub record StopsIn (P : State → ℕ → List Piece → ℕ → List ℕ → Type 0) (config : Config) (n : ℕ) (old : State) (number : ℕ) (all : List Piece) (at : ℕ) (printed printed' : Output) : Type 0 where
  pub lines : List Piece
  pub out : List ℕ
  pub mid : State
  pub replays : Replays config n old lines out mid
  pub left : List Piece
  pub all_are : all ≡ lines ++ left
  pub written : List ℕ
  pub held : Appends printed printed' (out ++ written)
  pub holds : P mid (number + length lines) left at written

-- the same of a whole text, from a heap without objects on
pub record Stops (P : State → ℕ → List Piece → ℕ → List ℕ → Type 0) (config : Config) (n : ℕ) (at : ℕ) (printed printed' : Output) (text : List ℕ) : Type 0 where
  pub first : State
  pub begins : IsFirst config first
  pub holds : Holds config first
  pub stops : StopsIn P config n first 1 (pieces text) at printed printed'

-- nothing whole is left, or a collection and of its schedule whole lines that were carried out and do not end it
pub data LeavesNothingWhole (config : Config) (n : ℕ) (s : State) (left : List Piece) : Type 0 where
  outside : whole_lines left ≡ [] → LeavesNothingWhole config n s left
  inside : (opens : OpensSchedule config s left) → IsUsedUp (setting_at s.heap opens.g n) (opening_at s.heap opens.g n) opens.text → LeavesNothingWhole config n s left

-- the lines that are whole were carried out and printed
pub record ReplaysWholeIn (config : Config) (n : ℕ) (old : State) (all : List Piece) (printed printed' : Output) : Type 0 where
  pub lines : List Piece
  pub out : List ℕ
  pub mid : State
  pub replays : Replays config n old lines out mid
  pub left : List Piece
  pub all_are : all ≡ lines ++ left
  pub held : Appends printed printed' out
  pub whole : LeavesNothingWhole config n mid left

-- the same of a text, from a heap without objects on
pub record ReplaysWhole (config : Config) (n : ℕ) (printed printed' : Output) (text : List ℕ) : Type 0 where
  pub first : State
  pub begins : IsFirst config first
  pub holds : Holds config first
  pub replays : ReplaysWholeIn config n first (pieces text) printed printed'

-- reads came to the end of a text, and what was written is what it means with its schedules
pub record IsReplayDone (config : Config) (n : ℕ) (i i' : Input) (o o' : Output) : Type 0 where
  pub ended : IsTrue i'.ended
  pub replayed : OfGiven [] i i' (IsReplayed config n o o')

-- why a replay by n workers stops, and what was then written of each text that begins with what was read; nothing was touched before the first read
abbrev pub IsReplayStopped : Config → ℕ → (untouched : Type 0) → (i i' : Input) (o o' : Output) → (failed_read failed_write : Type 0) → Fault → Type 0
IsReplayStopped config n untouched i i' o o' failed_read failed_write fault = AtFault (record never {
  trace = λ at kind. OfInput [] i i' (Stops (Quietly (HasTraceFault config n kind)) config n at o o');
  schedule = λ at kind. OfInput [] i i' (Stops (Quietly (HasScheduleFault config n kind)) config n at o o');
  full = λ at. MatchOption at ((config.blocks < config.mutators * config.nursery_blocks) × untouched) (λ line. OfInput [] i i' (Stops (Quietly (WantsBlocks config n)) config n line o o'));
  memory = λ at. MatchOption at untouched (λ line. OfInput [] i i' (Stops (IsSoundAt config n) config n line o o'));
  read = OfGiven [] i i' (ReplaysWhole config n o o') × (failed_read ⊎ IsOutOfReads (2 ^ 64 - 1) i i');
  write = failed_write;
}) fault
