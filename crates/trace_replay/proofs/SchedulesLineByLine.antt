-- A schedule goes on by one line, and stops at one.
use Rattle.std.proofs.Common.{◌≡◌, ℕ, ◌+◌, ◌<◌, ◌≤◌, true, false, List, [], ◌∷◌, ◌++◌, length, length-append, map, Some, None, Ok, Err, refl, sym, ap, subst, ◌∙◌, append_assoc, append-nil, arith, rules}
use Rattle.std.specs.Prelude.{nat_lt, MatchOption}
use Rattle.std.proofs.lemmas.List.{map-append}
use Rattle.model.specs.declared.kind.Kind.{Kind}
use Rattle.model.specs.declared.kind.Kind.TheVariants.{LineTooLong, UnfinishedLine}
use Rattle.steps.specs.HeapValue.{HeapValue}
use Rattle.steps.specs.CollectionValue.{CollectionValue}
use Rattle.workers.specs.Setting.{Setting}
use Rattle.workers.specs.System.{System}
use Rattle.workers.specs.Lawful.{IsLawful}
use Rattle.machine.specs.InterleavedValue.{HasWorkers, setting_for}
use Rattle.trace_text.specs.ScheduleGrammar.{schedule_line_of}
use Rattle.trace_text.specs.declared.schedule.ScheduleLine.{ScheduleLine}
use Rattle.trace_text.specs.declared.schedule.ScheduleLine.TheVariants.{Event, Finish, Commit}
use Rattle.trace_text.specs.declared.schedule.ScheduleEvent.{ScheduleEvent}
use Rattle.trace_text.specs.declared.schedule.ScheduleKind.TheVariants.{NotLawful, UnfinishedSchedule}
use Rattle.trace_text.specs.declared.schedule.LineFault.TheVariants as faults
use Rattle.trace_session.specs.declared.trace_lines.fault.Fault.{Fault}
use Rattle.trace_session.specs.declared.trace_lines.fault.Fault.TheVariants.{BadTrace, BadSchedule, HeapFull, NoMemory, Unsettled, ReadFailed, WriteFailed}
use Rattle.trace_session.specs.Faults.{never, AtFault}
use Rattle.trace_session.specs.Pieces.{HasNoFeed, Piece, finished, unfinished, pieces, whole_lines}
use Rattle.trace_session.proofs.PieceLemmas.{pieces_line, pieces_last}
use Rattle.trace_replay.specs.Naming.{HasFewWorkers, meant}
use Rattle.trace_session.proofs.PieceLemmas.{BeginsLong, long_finished, long_unfinished, whole_lines_are}
use Rattle.machine.specs.MachineValue.{MachineValue, setting_in}
use Rattle.machine.specs.Events.{IsSameCollection, IsFullForEvent, IsShortOfBlocks}
use Rattle.trace_replay.specs.Runs.{Brings, LinesRun, stay, go, BringsOn, IsSchedule}
use Rattle.trace_replay.specs.Stops.{IsUnreadable, IsFaulty, unlawful, IsRefusedBlocks, by_event, by_finish, IsShort, IsStuckAfter, IsSoundLine, IsUsedUp, OfLine, StopsAt, StopsWith, cut_short, faulty}

-- lines, one after another
pub record CarriesOn (lines : List (List ℕ)) (old new : MachineValue) : Type 0 where
  pub same : IsSameCollection old new
  pub run : LinesRun (setting_in old) old.system lines new.system

-- from line `number` of a text on, up to the line before this number, and this is the rest of the text
pub record HasCarried (number : ℕ) (text : List ℕ) (number' : ℕ) (rest : List ℕ) (old new : MachineValue) : Type 0 where
  pub lines : List (List ℕ)
  pub carries : CarriesOn lines old new
  pub pieces_are : pieces text ≡ map finished lines ++ pieces rest
  pub number_is : number' ≡ number + length lines

-- numbers of 32 bits are enough for sixteen workers
pub few_workers : (s : System) (n : ℕ) → HasWorkers s n → n ≤ 16 → HasFewWorkers s
few_workers s n has few = record {
  workers = omega (arith, has.workers, few);
  queues = omega (arith, has.queues, few);
  idle = omega (arith, has.idle, few);
}

same_setting : (old new : MachineValue) → IsSameCollection old new → setting_in new ≡ setting_in old
same_setting old new same =
    ap (λ (h : HeapValue). setting_for h new.collection new.workers) same.heap ∙ ap (λ (c : CollectionValue). setting_for old.heap c new.workers) same.collection ∙ ap (setting_for old.heap old.collection) same.workers

lines_more : (setting : Setting) {s mid last : System} {lines : List (List ℕ)} (line : List ℕ) (said : ScheduleLine) → LinesRun setting s lines mid → schedule_line_of line ≡ Ok said → Brings setting mid said last → LinesRun setting s (lines ++ line ∷ []) last
lines_more setting line said stay says brings = go {line = line} {said = said} says brings stay
lines_more setting line said (go {line = first} {said = other} e b rest) says brings = go {line = first} {said = other} e b (lines_more setting line said rest says brings)

no_pieces : (text : List ℕ) → length text ≡ 0 → pieces text ≡ []
unfolding pieces
no_pieces [] none = refl
no_pieces (b ∷ bs) none = absurd (omega (arith, none))

one_piece : (text : List ℕ) → HasNoFeed text → 0 < length text → pieces text ≡ unfinished text ∷ []
one_piece [] free some = elim some [ ]
one_piece (b ∷ bs) free some = pieces_last (b ∷ bs) free

long_line : (line : List ℕ) → 4096 < length line → schedule_line_of line ≡ Err (faults.Trace LineTooLong)
unfolding schedule_line_of
long_line line long =
    let too_long : nat_lt 4096 (length line) ≡ true = search rules in
    rw too_long refl

pub carried_none : (number : ℕ) (text : List ℕ) (m : MachineValue) → HasCarried number text number text m m
carried_none number text m = record {
  lines = [];
  carries = record { same = record { heap = refl; collection = refl; workers = refl }; run = stay };
  pieces_are = refl;
  number_is = omega arith;
}

module _ (start : ℕ) (text : List ℕ) (number' : ℕ) (rest : List ℕ) (old mid : MachineValue) (so_far : HasCarried (start + 1) text number' rest old mid) where
  same_is : setting_in mid ≡ setting_in old
  same_is = same_setting old mid so_far.carries.same

  module _ (line next : List ℕ) (is : rest ≡ line ++ 10 ∷ next) (free : HasNoFeed line) where
    pieces_is : pieces text ≡ map finished so_far.lines ++ finished line ∷ pieces next
    pieces_is = so_far.pieces_are ∙ ap (λ ps. map finished so_far.lines ++ ps) (ap pieces is ∙ pieces_line line next free)

    pub carried_on : (new : MachineValue) → BringsOn line mid new → HasCarried (start + 1) text (number' + 1) next old new
    carried_on new b = record {
      lines = so_far.lines ++ line ∷ [];
      carries = record {
        same = record { heap = b.same.heap ∙ so_far.carries.same.heap; collection = b.same.collection ∙ so_far.carries.same.collection; workers = b.same.workers ∙ so_far.carries.same.workers };
        run = lines_more (setting_in old) line b.said so_far.carries.run b.says (subst (λ k. Brings k mid.system b.said new.system) same_is b.brings);
      };
      pieces_are = pieces_is ∙ sym (append_assoc (map finished so_far.lines) (finished line ∷ []) (pieces next)) ∙ ap (λ ps. ps ++ pieces next) (sym (map-append finished so_far.lines (line ∷ [])));
      number_is = omega (arith, so_far.number_is, length-append so_far.lines);
    }

    pub ends_with : (new : MachineValue) → (schedule_line_of line ≡ Ok Commit) × (new ≡ mid) → IsSchedule (setting_in old) old.system (start + 1) text number' next new.system
    ends_with new e = record {
      lines = so_far.lines;
      run = subst (λ (m : MachineValue). LinesRun (setting_in old) old.system so_far.lines m.system) (sym e.1) so_far.carries.run;
      ends = line;
      commits = e.0;
      pieces_are = pieces_is;
      number_is = so_far.number_is;
    }

    pub same_at_end : (new : MachineValue) → (schedule_line_of line ≡ Ok Commit) × (new ≡ mid) → IsSameCollection old new
    same_at_end new e = subst (λ (m : MachineValue). IsSameCollection old m) (sym e.1) so_far.carries.same

    stops_at : (P : System → Piece → Type 0) (at : ℕ) → at ≡ number' → P mid.system (finished line) → StopsAt P (setting_in old) old.system (start + 1) text at
    stops_at P at here holds = record { lines = so_far.lines; last = mid.system; run = so_far.carries.run; piece = finished line; more = pieces next; pieces_are = pieces_is; number_is = here ∙ so_far.number_is; holds = holds }

    short_in : IsShortOfBlocks mid.heap mid.collection.generation mid.workers → IsShortOfBlocks old.heap old.collection.generation old.workers
    short_in short =
        subst (λ h. IsShortOfBlocks h old.collection.generation old.workers) so_far.carries.same.heap
        (subst (λ (c : CollectionValue). IsShortOfBlocks mid.heap c.generation old.workers) so_far.carries.same.collection
        (subst (λ n. IsShortOfBlocks mid.heap mid.collection.generation n) so_far.carries.same.workers short))

    -- the fault of a line is that of the schedule
    pub fault_of_line : (e : Fault)
        → AtFault (record never { trace = λ at kind. (at ≡ number') × (schedule_line_of line ≡ Err (faults.Trace kind)); schedule = λ at kind. (at ≡ number') × IsFaulty (setting_in mid) mid.system line kind; full = λ at. (at ≡ Some number') × IsShort line mid; memory = λ at. (at ≡ Some number') × IsSoundLine (setting_in mid) mid.system line }) e
        → AtFault (record never { trace = λ at kind. StopsAt (IsUnreadable kind) (setting_in old) old.system (start + 1) text at; schedule = λ at kind. StopsWith (setting_in old) old.system start text at kind; full = λ at. MatchOption at ⊥ (λ line. StopsAt (OfLine (IsRefusedBlocks (setting_in old))) (setting_in old) old.system (start + 1) text line × IsShortOfBlocks old.heap old.collection.generation old.workers); memory = λ at. MatchOption at ⊥ (λ line. StopsAt (OfLine (IsSoundLine (setting_in old))) (setting_in old) old.system (start + 1) text line) }) e
    fault_of_line (BadTrace at kind) f = stops_at (IsUnreadable kind) at f.0 f.1
    fault_of_line (BadSchedule at kind) f = faulty (stops_at (OfLine (λ s l. IsFaulty (setting_in old) s l kind)) at f.0 (subst (λ k. IsFaulty k mid.system line kind) same_is f.1))
    fault_of_line (HeapFull None) f = absurd (let none = f.0 in cc)
    fault_of_line (HeapFull (Some at)) f =
        (stops_at (OfLine (IsRefusedBlocks (setting_in old))) at (let is = f.0 in cc) (subst (λ k. IsRefusedBlocks k mid.system line) same_is f.1.wants), short_in f.1.short)
    fault_of_line (NoMemory None) f = absurd (let none = f.0 in cc)
    fault_of_line (NoMemory (Some at)) f = stops_at (OfLine (IsSoundLine (setting_in old))) at (let is = f.0 in cc) (subst (λ k. IsSoundLine k mid.system line) same_is f.1)
    fault_of_line (Unsettled line) f = absurd f
    fault_of_line ReadFailed f = f
    fault_of_line WriteFailed f = f

  -- nothing is left of the text
  pub ends_short : length rest ≡ 0 → StopsWith (setting_in old) old.system start text start UnfinishedSchedule
  ends_short none = cut_short refl (record { lines = so_far.lines; last = mid.system; run = so_far.carries.run; pieces_are = so_far.pieces_are ∙ ap (λ ps. map finished so_far.lines ++ ps) (no_pieces rest none) ∙ append-nil (map finished so_far.lines) })

  unreadable_at : (kind : Kind) (piece : Piece) (more : List Piece) → pieces rest ≡ piece ∷ more → IsUnreadable kind mid.system piece → StopsAt (IsUnreadable kind) (setting_in old) old.system (start + 1) text number'
  unreadable_at kind piece more is holds = record {
    lines = so_far.lines;
    last = mid.system;
    run = so_far.carries.run;
    piece = piece;
    more = more;
    pieces_are = so_far.pieces_are ∙ ap (λ ps. map finished so_far.lines ++ ps) is;
    number_is = so_far.number_is;
    holds = holds;
  }

  pub ends_long : BeginsLong (pieces rest) → StopsAt (IsUnreadable LineTooLong) (setting_in old) old.system (start + 1) text number'
  ends_long (long_finished {line = line} {more = more} is long) = unreadable_at LineTooLong (finished line) more is (long_line line long)
  ends_long (long_unfinished {line = line} is long) =
      let too_long : nat_lt 4096 (length line) ≡ true = search rules in
      unreadable_at LineTooLong (unfinished line) [] is (rw too_long refl)

  pub ends_unfinished : HasNoFeed rest → 0 < length rest → length rest ≤ 4096 → StopsAt (IsUnreadable UnfinishedLine) (setting_in old) old.system (start + 1) text number'
  ends_unfinished free some short =
      let fits : nat_lt 4096 (length rest) ≡ false = search rules in
      unreadable_at UnfinishedLine (unfinished rest) [] (one_piece rest free some) (rw fits refl)

  -- no whole line is left of the text
  pub used_up : HasNoFeed rest → IsUsedUp (setting_in old) old.system text
  used_up free = record {
    lines = so_far.lines;
    last = mid.system;
    run = so_far.carries.run;
    lines_are = ap whole_lines so_far.pieces_are ∙ whole_lines_are so_far.lines rest free;
  }

-- the fault of what a line says is that of the line
module _ (number : ℕ) (line : List ℕ) (m : MachineValue) where
  pub fault_of_event : (event : ScheduleEvent) → schedule_line_of line ≡ Ok (Event event) → (e : Fault)
      → AtFault (record never { schedule = λ at kind. (at ≡ number) × (kind ≡ NotLawful) × ¬ IsLawful (setting_in m) m.system (meant event); full = λ at. (at ≡ Some number) × IsFullForEvent (meant event) m; memory = λ at. (at ≡ Some number) × IsLawful (setting_in m) m.system (meant event) }) e
      → AtFault (record never { trace = λ at kind. (at ≡ number) × (schedule_line_of line ≡ Err (faults.Trace kind)); schedule = λ at kind. (at ≡ number) × IsFaulty (setting_in m) m.system line kind; full = λ at. (at ≡ Some number) × IsShort line m; memory = λ at. (at ≡ Some number) × IsSoundLine (setting_in m) m.system line }) e
  fault_of_event event says (BadTrace at kind) f = absurd f
  fault_of_event event says (BadSchedule at kind) f = (f.0, subst (IsFaulty (setting_in m) m.system line) (sym f.1) (unlawful says f.2))
  fault_of_event event says (HeapFull at) f = (f.0, record { wants = by_event says f.1.refused; short = f.1.short })
  fault_of_event event says (NoMemory at) f = (f.0, record { said = Event event; says = says; may = f.1 })
  fault_of_event event says (Unsettled line) f = absurd f
  fault_of_event event says ReadFailed f = f
  fault_of_event event says WriteFailed f = f

  pub fault_of_finish : schedule_line_of line ≡ Ok Finish → (e : Fault)
      → AtFault (record never { full = λ at. (at ≡ Some number) × IsStuckAfter m; memory = λ at. at ≡ Some number }) e
      → AtFault (record never { trace = λ at kind. (at ≡ number) × (schedule_line_of line ≡ Err (faults.Trace kind)); schedule = λ at kind. (at ≡ number) × IsFaulty (setting_in m) m.system line kind; full = λ at. (at ≡ Some number) × IsShort line m; memory = λ at. (at ≡ Some number) × IsSoundLine (setting_in m) m.system line }) e
  fault_of_finish says (BadTrace at kind) f = absurd f
  fault_of_finish says (BadSchedule at kind) f = absurd f
  fault_of_finish says (HeapFull at) f = (f.0, record { wants = by_finish says f.1.comes; short = f.1.short })
  fault_of_finish says (NoMemory at) f = (f, record { said = Finish; says = says; may = tt })
  fault_of_finish says (Unsettled line) f = absurd f
  fault_of_finish says ReadFailed f = f
  fault_of_finish says WriteFailed f = f
