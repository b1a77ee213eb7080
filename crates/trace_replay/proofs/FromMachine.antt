-- From a machine's values to those of the heap whose collection it is.
use Rattle.std.proofs.Common.{◌≡◌, ℕ, ◌+◌, Bool, true, false, List, Option, Some, None, ◌⊎◌, inr, refl, ap, subst, ◌∙◌}
use Rattle.std.specs.Prelude.{MatchOption, slice_get}
use Rattle.heap_text.specs.Streams.{Input, OfGiven, OfInput}
use Rattle.layout.specs.declared.place.Place.{Place}
use Rattle.block_pool.specs.BlockValue.{BlockValue}
use Rattle.steps.specs.HeapValue.{HeapValue}
use Rattle.steps.specs.CollectionValue.{CollectionValue}
use Rattle.steps.specs.ReportValue.{WorkerLists, all_won}
use Rattle.steps.specs.SettledValue.{IsSettled}
use Rattle.steps.specs.declared.heap_values.report.Delivery.{Delivery}
use Rattle.workers.specs.Setting.{Setting, setting_of}
use Rattle.workers.specs.System.{System}
use Rattle.workers.specs.Lawful.{AllEnded}
use Rattle.machine.specs.InterleavedValue.{setting_for}
use Rattle.settling.specs.Collects.{ScansOnce, setting_at, opening_at}
use Rattle.settling.specs.Together.{Reports}
use Rattle.trace_text.specs.declared.schedule.ScheduleKind.TheVariants.{NotEnded}
use Rattle.trace_text.specs.declared.schedule.ScheduleLine.TheVariants.{Commit}
use Rattle.trace_session.specs.declared.trace_lines.fault.Fault.{Fault}
use Rattle.trace_session.specs.declared.trace_lines.fault.Fault.TheVariants.{BadTrace, BadSchedule, HeapFull, NoMemory, Unsettled, ReadFailed, WriteFailed}
use Rattle.trace_session.specs.Faults.{FaultCases, never, AtFault}
use Rattle.trace_session.specs.Lines.{LinesValue, Moves}
use Rattle.trace_session.specs.Pieces.{Piece, finished, pieces}
use Rattle.machine.specs.MachineValue.{MachineValue, setting_in}
use Rattle.machine.specs.Events.{IsSameCollection, IsShortOfBlocks, Opens}
use Rattle.machine.specs.Settles.{Settles}
use Rattle.trace_replay.specs.Runs.{Finishes, IsSchedule}
use Rattle.trace_replay.specs.Stops.{IsUnreadable, IsFaulty, IsRefusedBlocks, IsSoundLine, IsUsedUp, OfLine, StopsAt, StopsWith, ComesToStuck, IsStuckAfter, IsFullInTurn, faulty, not_ended}
use Rattle.trace_session.proofs.LineLemmas.{OfInput-map, moves_as, stops_moved}
use Rattle.trace_replay.specs.Brought.{IsBrought, BringsToCommit, ComesToCommit}

-- where the schedule of a collection stops whose `collect` is this line, fault by fault
abbrev pub schedule_cases : HeapValue → (g n start : ℕ) → (front : List ℕ) → (i j : Input) → (failed : Type 0) → FaultCases
schedule_cases heap g n start front i j failed = record never {
  trace = λ at kind. OfInput front i j (λ text. StopsAt (IsUnreadable kind) (setting_at heap g n) (opening_at heap g n) (start + 1) text at);
  schedule = λ at kind. OfInput front i j (λ text. StopsWith (setting_at heap g n) (opening_at heap g n) start text at kind);
  full = λ at. MatchOption at ⊥ (λ line. OfInput front i j (λ text. StopsAt (OfLine (IsRefusedBlocks (setting_at heap g n))) (setting_at heap g n) (opening_at heap g n) (start + 1) text line) × IsShortOfBlocks heap g n);
  memory = λ at. MatchOption at ⊥ (λ line. OfInput front i j (λ text. (line ≡ start) ⊎ StopsAt (OfLine (IsSoundLine (setting_at heap g n))) (setting_at heap g n) (opening_at heap g n) (start + 1) text line));
  read = OfGiven front i j (IsUsedUp (setting_at heap g n) (opening_at heap g n)) × failed;
}

-- what can't be refused holds
set_if : (o : Option Bool) → ((o ≡ Some true → ⊥) → ⊥) → o ≡ Some true
set_if None not_not = absurd (not_not (λ e. absurd (cc)))
set_if (Some false) not_not = absurd (not_not (λ e. absurd (cc)))
set_if (Some true) not_not = refl

pub all_ended_if : (s : System) → ¬ (¬ AllEnded s) → AllEnded s
all_ended_if s not_not = λ t l. set_if (slice_get s.ended t) (λ not. not_not (λ all. not (all t l)))

module _ (heap : HeapValue) (g n : ℕ) (first : MachineValue) (opens : Opens heap g n first) where
  setting_is : setting_in first ≡ setting_at heap g n
  setting_is =
      ap (λ (h : HeapValue). setting_for h first.collection first.workers) opens.heap_is
      ∙ ap (λ k. setting_of heap.graph k heap.config.shape heap.config.block_words first.workers) opens.opened.generation
      ∙ ap (λ k. setting_of heap.graph g heap.config.shape heap.config.block_words k) opens.workers_are

  at_heap : (Q : Setting → System → Type 0) → Q (setting_in first) first.system → Q (setting_at heap g n) (opening_at heap g n)
  at_heap Q q = subst (λ s. Q (setting_at heap g n) s) opens.first (subst (λ k. Q k first.system) setting_is q)

  short_is : IsShortOfBlocks first.heap first.collection.generation first.workers → IsShortOfBlocks heap g n
  short_is short =
      subst (λ h. IsShortOfBlocks h g n) opens.heap_is
      (subst (λ k. IsShortOfBlocks first.heap k n) opens.opened.generation
      (subst (λ k. IsShortOfBlocks first.heap first.collection.generation k) opens.workers_are short))

  pub fault_at_heap : (start : ℕ) (front : List ℕ) (i j : Input) (failed : Type 0) (e : Fault)
      → AtFault (record never {
        trace = λ at kind. OfInput front i j (λ text. StopsAt (IsUnreadable kind) (setting_in first) first.system (start + 1) text at);
        schedule = λ at kind. OfInput front i j (λ text. StopsWith (setting_in first) first.system start text at kind);
        full = λ at. MatchOption at ⊥ (λ line. OfInput front i j (λ text. StopsAt (OfLine (IsRefusedBlocks (setting_in first))) (setting_in first) first.system (start + 1) text line)
            × IsShortOfBlocks first.heap first.collection.generation first.workers);
        memory = λ at. MatchOption at ⊥ (λ line. OfInput front i j (λ text. StopsAt (OfLine (IsSoundLine (setting_in first))) (setting_in first) first.system (start + 1) text line));
        read = OfGiven front i j (IsUsedUp (setting_in first) first.system) × failed;
      }) e
      → AtFault (schedule_cases heap g n start front i j failed) e
  fault_at_heap start front i j failed (BadTrace at kind) f = at_heap (λ k s. OfInput front i j (λ text. StopsAt (IsUnreadable kind) k s (start + 1) text at)) f
  fault_at_heap start front i j failed (BadSchedule at kind) f = at_heap (λ k s. OfInput front i j (λ text. StopsWith k s start text at kind)) f
  fault_at_heap start front i j failed (HeapFull None) f = f
  fault_at_heap start front i j failed (HeapFull (Some at)) f =
      (at_heap (λ k s. OfInput front i j (λ text. StopsAt (OfLine (IsRefusedBlocks k)) k s (start + 1) text at)) f.0, short_is f.1)
  fault_at_heap start front i j failed (NoMemory None) f = f
  fault_at_heap start front i j failed (NoMemory (Some at)) f =
      OfInput-map front i j (at_heap (λ k s. OfInput front i j (λ text. StopsAt (OfLine (IsSoundLine k)) k s (start + 1) text at)) f) (λ text stop. inr stop)
  fault_at_heap start front i j failed (Unsettled line) f = absurd f
  fault_at_heap start front i j failed ReadFailed f = (at_heap (λ k s. OfGiven front i j (IsUsedUp k s)) f.0, f.1)
  fault_at_heap start front i j failed WriteFailed f = f

  module _ (last : MachineValue) (same : IsSameCollection first last) where
    heap_is : last.heap ≡ heap
    heap_is = same.heap ∙ opens.heap_is

    generation_is : last.collection.generation ≡ g
    generation_is = ap (λ (c : CollectionValue). c.generation) same.collection ∙ opens.opened.generation

    brought : (collection : CollectionValue) (places : List (Option Place)) (blocks : List BlockValue) (workers : List WorkerLists) (deliveries : List Delivery) → Settles last collection places blocks workers deliveries
        → IsBrought heap g last.system collection places blocks workers deliveries
    brought collection places blocks workers deliveries settles = record {
      reports_are = subst (λ h. Reports h g last.system workers deliveries) heap_is (subst (λ k. Reports last.heap k last.system workers deliveries) generation_is settles.reports_are);
      generation_is = ap (λ (c : CollectionValue). c.generation) settles.collection_is ∙ generation_is;
      may_commit = subst (λ h. IsSettled h collection places blocks (all_won workers)) heap_is settles.may_commit;
      once = subst (λ h. ScansOnce h g workers) heap_is (subst (λ k. ScansOnce last.heap k workers) generation_is settles.once);
    }

    -- each event came by itself
    pub comes : Finishes (setting_in first) first.system last.system → (collection : CollectionValue) (places : List (Option Place)) (blocks : List BlockValue) (workers : List WorkerLists) (deliveries : List Delivery) → Settles last collection places blocks workers deliveries
        → ComesToCommit heap g n collection places blocks workers deliveries
    comes finishes collection places blocks workers deliveries settles = record {
      last = last.system;
      finishes = at_heap (λ k s. Finishes k s last.system) finishes;
      brought = brought collection places blocks workers deliveries settles;
    }

  -- where what comes by itself is short of blocks
  pub finish_fault : (number : ℕ) (e : Fault)
      → AtFault (record never { full = λ at. (at ≡ Some number) × IsStuckAfter first; memory = λ at. at ≡ Some number }) e
      → AtFault (record never { full = λ at. (at ≡ Some number) × IsFullInTurn heap g n; memory = λ at. at ≡ Some number }) e
  finish_fault number (BadTrace at kind) f = f
  finish_fault number (BadSchedule at kind) f = f
  finish_fault number (HeapFull at) f = (f.0, record { comes = at_heap ComesToStuck f.1.comes; short = short_is f.1.short })
  finish_fault number (NoMemory at) f = f
  finish_fault number (Unsettled line) f = absurd f
  finish_fault number ReadFailed f = f
  finish_fault number WriteFailed f = f

  module _ (last : MachineValue) (same : IsSameCollection first last) (start : ℕ) (text : List ℕ) (commit : ℕ) (rest : List ℕ) (schedule : IsSchedule (setting_in first) first.system (start + 1) text commit rest last.system) where
    schedule_is : IsSchedule (setting_at heap g n) (opening_at heap g n) (start + 1) text commit rest last.system
    schedule_is = at_heap (λ k s. IsSchedule k s (start + 1) text commit rest last.system) schedule

    pub brings : (collection : CollectionValue) (places : List (Option Place)) (blocks : List BlockValue) (workers : List WorkerLists) (deliveries : List Delivery) → Settles last collection places blocks workers deliveries
        → BringsToCommit heap g n start text commit rest collection places blocks workers deliveries
    brings collection places blocks workers deliveries settles = record {
      last = last.system;
      schedule = schedule_is;
      brought = brought last same collection places blocks workers deliveries settles;
    }

    at_commit : (P : System → Piece → Type 0) → P last.system (finished schedule_is.ends) → StopsAt P (setting_at heap g n) (opening_at heap g n) (start + 1) text commit
    at_commit P holds = record { lines = schedule_is.lines; last = last.system; run = schedule_is.run; piece = finished schedule_is.ends; more = pieces rest; pieces_are = schedule_is.pieces_are; number_is = schedule_is.number_is; holds = holds }

    pub not_all_ended : ¬ AllEnded last.system → StopsWith (setting_at heap g n) (opening_at heap g n) start text commit NotEnded
    not_all_ended not = faulty (at_commit (OfLine (λ s line. IsFaulty (setting_at heap g n) s line NotEnded)) (not_ended schedule_is.commits not))

    pub no_memory : ¬ (¬ AllEnded last.system) → StopsAt (OfLine (IsSoundLine (setting_at heap g n))) (setting_at heap g n) (opening_at heap g n) (start + 1) text commit
    no_memory not_not = at_commit (OfLine (IsSoundLine (setting_at heap g n))) (record { said = Commit; says = schedule_is.commits; may = all_ended_if last.system not_not })

  -- of a schedule that is read
  module _ (last : MachineValue) (same : IsSameCollection first last) (start commit : ℕ) (a b : LinesValue) (i j : Input)
      (schedule : Moves a b i j (λ text rest. IsSchedule (setting_in first) first.system (start + 1) text commit rest last.system)) where
    pub brings_read : (collection : CollectionValue) (places : List (Option Place)) (blocks : List BlockValue) (workers : List WorkerLists) (deliveries : List Delivery) → Settles last collection places blocks workers deliveries
        → Moves a b i j (λ text rest. BringsToCommit heap g n start text commit rest collection places blocks workers deliveries)
    brings_read collection places blocks workers deliveries settles =
        moves_as a b i j schedule (λ text rest h. brings last same start text commit rest h collection places blocks workers deliveries settles)

    pub not_all_ended_read : ¬ AllEnded last.system → OfInput a.pending i j (λ text. StopsWith (setting_at heap g n) (opening_at heap g n) start text commit NotEnded)
    not_all_ended_read not = stops_moved a b i j schedule (λ text rest h. not_all_ended last same start text commit rest h not)

    pub no_memory_read : ¬ (¬ AllEnded last.system)
        → OfInput a.pending i j (λ text. (commit ≡ start) ⊎ StopsAt (OfLine (IsSoundLine (setting_at heap g n))) (setting_at heap g n) (opening_at heap g n) (start + 1) text commit)
    no_memory_read not_not = stops_moved a b i j schedule (λ text rest h. inr (no_memory last same start text commit rest h not_not))
