-- What a collection by a schedule does to a session that stands for a store.
use Rattle.std.proofs.Common.{◌≡◌, ℕ, ◌+◌, ◌<◌, ◌≤◌, true, false, List, [], ◌∷◌, ◌++◌, length, Option, Some, None, Result, Ok, ◌⊎◌, inl, inr, refl, sym, ap, subst, ◌∙◌, codes, arith}
use Rattle.std.specs.Prelude.{nat_lt, sum_by, MatchOption, is_ok}
use Rattle.heap_text.specs.Streams.{Input, Output, Appends, OfGiven, OfInput}
use Rattle.std.proofs.lemmas.Bool.{lt-ltb, le-ltb}
use Rattle.layout.specs.declared.place.Place.{Place}
use Rattle.block_pool.specs.BlockValue.{BlockValue}
use Rattle.model.specs.declared.kind.Kind.TheVariants.{NoGeneration}
use Rattle.model.specs.declared.kind.Kind.{Kind}
use Rattle.model.specs.Config.{Config}
use Rattle.model.specs.LiveCount.{LiveCount}
use Rattle.model.specs.Text.{collection_line}
use Rattle.model.specs.Store.{Store, collected, kept_count, freed_count}
use Rattle.model.specs.Commands.{Command as Written, Collect}
use Rattle.steps.specs.HeapValue.{HeapValue}
use Rattle.steps.specs.CollectionValue.{CollectionValue, young_names}
use Rattle.steps.specs.CollectedHeap.{CollectedHeap}
use Rattle.steps.specs.ReportValue.{WorkerLists, all_won, renaming_of}
use Rattle.steps.specs.declared.heap_values.report.Delivery.{Delivery}
use Rattle.workers.specs.Setting.{Setting}
use Rattle.workers.specs.System.{System, Event as Happens}
use Rattle.workers.specs.Steps as steps
use Rattle.workers.proofs.OneMore.{stepped_run}
use Rattle.settling.specs.Collects.{Collects, setting_at, opening_at}
use Rattle.settling.specs.Together.{CollectsTogether}
use Rattle.trace_replay.specs.Events.{IsShortOfBlocks}
use Rattle.heap_text.specs.declared.cause.Cause.TheVariants.{Command}
use Rattle.trace_text.specs.Grammar.{entry_of, ◌>>=◌}
use Rattle.trace_text.specs.declared.schedule.ScheduleLine.{ScheduleLine}
use Rattle.trace_text.specs.declared.schedule.ScheduleKind.{ScheduleKind}
use Rattle.trace_text.specs.declared.schedule.ScheduleLine.TheVariants.{Nothing, Event, Finish, Commit}
use Rattle.trace_session.specs.declared.trace_lines.fault.Fault.{Fault}
use Rattle.trace_session.specs.declared.trace_lines.fault.Fault.TheVariants.{BadTrace, BadSchedule, HeapFull, NoMemory, Unsettled, ReadFailed, WriteFailed}
use Rattle.trace_session.specs.Faults.{never, AtFault}
use Rattle.trace_session.specs.Lines.{LinesValue, Moves}
use Rattle.trace_session.specs.Pieces.{finished, pieces}
use Rattle.trace_session.specs.declared.session.Session.{Session}
use Rattle.trace_session.specs.Session.{Stands}
use Rattle.trace_session.specs.Outcome.{line_step, entry_step, command_step}
use Rattle.trace_session.specs.Sound.{IsSoundCommand}
use Rattle.trace_session.specs.Stepped.{AtEach}
use Rattle.trace_session.specs.Made as made_by
use Rattle.trace_session.specs.Stands.{StandsFor}
use Rattle.trace_session.proofs.StandsCollected.{stands_collected, kept_same, freed_same}
use Rattle.trace_replay.specs.Runs.{Brings, LinesRun, stay, go}
use Rattle.trace_replay.specs.Stops.{IsUnreadable, IsRefusedBlocks, IsSoundLine, IsUsedUp, OfLine, StopsAt, StopsWith}
use Rattle.trace_replay.specs.Brought.{IsBrought, BringsToCommit}
use Rattle.trace_replay.specs.Replays.{State, HasCollected, CollectsTo, state_of}
use Rattle.trace_replay.specs.ReplayStops.{OpensSchedule, AfterCollect, HasTraceFault, HasScheduleFault, WantsBlocks, IsSoundAt, LeavesNothingWhole, outside, inside}
use Rattle.trace_replay.specs.ReplayStops as stops
use Rattle.trace_session.proofs.LineLemmas.{OfInput-map, OfGiven-map, moves_as, stops_moved}
use Rattle.heap_text.specs.CollectionLine.{cause_word}
use Rattle.heap_text.specs.ReportText.{workers_text}
use Rattle.heap_text.specs.declared.cause.Cause.{Cause}
use Rattle.trace_replay.proofs.FromMachine.{schedule_cases}

-- the collection's line, and then those of its workers
abbrev pub report_text : Cause → (g kept freed : ℕ) → List WorkerLists → List Delivery → List ℕ
report_text cause g kept freed workers deliveries = collection_line (cause_word cause) g kept freed ++ workers_text workers deliveries

-- the lines of a schedule are events, one after another
module _ (setting : Setting) where
  run_append : {s mid last : System} {es fs : List Happens} → steps.Run setting s es mid → steps.Run setting mid fs last → steps.Run setting s (es ++ fs) last
  run_append steps.stay more = more
  run_append (steps.go {event = event} e rest) more = steps.go {event = event} e (run_append rest more)

  brings_run : {s mid : System} (said : ScheduleLine) → Brings setting s said mid → (events : List Happens) × steps.Run setting s events mid
  brings_run {s} Nothing brings = ([], subst (λ m. steps.Run setting s [] m) (sym brings) steps.stay)
  brings_run (Event event) brings = (_, steps.go brings steps.stay)
  brings_run Finish brings = stepped_run setting brings.run
  brings_run Commit brings = absurd brings

  lines_run : {s last : System} {lines : List (List ℕ)} → LinesRun setting s lines last → (events : List Happens) × steps.Run setting s events last
  lines_run stay = ([], steps.stay)
  lines_run (go {said = said} says brings rest) =
      let first = brings_run said brings in
      let more = lines_run rest in
      (first.0 ++ more.0, run_append first.1 more.1)

line_is : (config : Config) (store : Store) (line : List ℕ) (g : ℕ) → entry_of line ≡ Ok (Some (Collect g)) → line_step config store line ≡ command_step config store (Collect g)
unfolding line_step
line_is config store line g says = ap (λ (read : Result (Option Written) Kind). read >>= entry_step config store) says

module _ (heap : HeapValue) (names : List (List ℕ × ℕ)) (config : Config) (store : Store) (stands : StandsFor heap names config store) (g : ℕ) where
  abbrev pub before : State
  before = record { heap = heap; names = names; store = store }

  known : g < heap.config.shape.generations → nat_lt g config.shape.generations ≡ true
  known in_range = lt-ltb g config.shape.generations (rw (← stands.config_is) in_range)

  collect_sound : g < heap.config.shape.generations → IsSoundCommand config store (Collect g)
  collect_sound in_range = rw (known in_range) refl

  pub no_generation : (n number : ℕ) (text : List ℕ) → heap.config.shape.generations ≤ g → AfterCollect g text (λ left. HasTraceFault config n NoGeneration before number left number)
  no_generation n number text out = λ line asks.
      let unknown : nat_lt g config.shape.generations ≡ false = le-ltb g config.shape.generations (rw (← stands.config_is) out) in
      outside {p = finished line} refl refl (line_is config store line g asks ∙ rw unknown refl)

  module _ (in_range : g < heap.config.shape.generations) (n number : ℕ) (text : List ℕ) where
    abbrev opens : (line : List ℕ) → entry_of line ≡ Ok (Some (Collect g)) → OpensSchedule config before (finished line ∷ pieces text)
    opens line asks = record { line = line; g = g; asks = asks; sound = collect_sound in_range; text = text; left_is = refl }

    pub no_memory_at : AfterCollect g text (λ left. IsSoundAt config n before number left number [])
    no_memory_at = λ line asks. stops.outside {line = line} refl refl (ap is_ok (line_is config store line g asks) ∙ collect_sound in_range, inl refl)

    -- memory is wanted in the schedule's last line
    pub no_memory_in : (at : ℕ) → StopsAt (OfLine (IsSoundLine (setting_at heap g n))) (setting_at heap g n) (opening_at heap g n) (number + 1) text at → AfterCollect g text (λ left. IsSoundAt config n before number left at [])
    no_memory_in at stop = λ line asks. stops.inside (opens line asks) stop refl

    pub trace_fault_in : (kind : Kind) (at : ℕ) → StopsAt (IsUnreadable kind) (setting_at heap g n) (opening_at heap g n) (number + 1) text at → AfterCollect g text (λ left. HasTraceFault config n kind before number left at)
    trace_fault_in kind at stop = λ line asks. inside (opens line asks) stop

    pub schedule_fault_in : (kind : ScheduleKind) (at : ℕ) → StopsWith (setting_at heap g n) (opening_at heap g n) number text at kind → AfterCollect g text (λ left. HasScheduleFault config n kind before number left at)
    schedule_fault_in kind at stop = λ line asks. record { opens = opens line asks; stops = stop }

    pub blocks_wanted_in : (at : ℕ) → StopsAt (OfLine (IsRefusedBlocks (setting_at heap g n))) (setting_at heap g n) (opening_at heap g n) (number + 1) text at → IsShortOfBlocks heap g n → AfterCollect g text (λ left. WantsBlocks config n before number left at)
    blocks_wanted_in at stop short = λ line asks. stops.inside (opens line asks) stop short

    no_memory_either : (at : ℕ) → (at ≡ number) ⊎ StopsAt (OfLine (IsSoundLine (setting_at heap g n))) (setting_at heap g n) (opening_at heap g n) (number + 1) text at
        → AfterCollect g text (λ left. IsSoundAt config n before number left at [])
    no_memory_either at (inl is) = subst (λ k. AfterCollect g text (λ left. IsSoundAt config n before number left k [])) (sym is) no_memory_at
    no_memory_either at (inr stop) = no_memory_in at stop

    -- reads came to no whole line more
    pub used_up_in : IsUsedUp (setting_at heap g n) (opening_at heap g n) text → AfterCollect g text (LeavesNothingWhole config n before)
    used_up_in used = λ line asks. stops.inside (opens line asks) used

-- where the schedule stops
module _ (heap : HeapValue) (names : List (List ℕ × ℕ)) (g n number : ℕ) (in_range : g < heap.config.shape.generations) (front : List ℕ) (i j : Input) {W : Type 0} (old new : W) (failed written : Type 0) where
  pub fault_of_schedule : new ≡ old → (e : Fault)
      → AtFault (schedule_cases heap g n number front i j failed) e
      → AtFault (record never { trace = λ at kind. OfInput front i j (λ text. AtEach (StandsFor heap names) (λ config store. AfterCollect g text (λ left. HasTraceFault config n kind (record { heap = heap; names = names; store = store }) number left at))) × (new ≡ old); schedule = λ at kind. OfInput front i j (λ text. AtEach (StandsFor heap names) (λ config store. AfterCollect g text (λ left. HasScheduleFault config n kind (record { heap = heap; names = names; store = store }) number left at))) × (new ≡ old); full = λ at. MatchOption at ⊥ (λ line. OfInput front i j (λ text. AtEach (StandsFor heap names) (λ config store. AfterCollect g text (λ left. WantsBlocks config n (record { heap = heap; names = names; store = store }) number left line)))) × (new ≡ old); memory = λ at. MatchOption at ⊥ (λ line. OfInput front i j (λ text. AtEach (StandsFor heap names) (λ config store. AfterCollect g text (λ left. IsSoundAt config n (record { heap = heap; names = names; store = store }) number left line [])))) × (new ≡ old); read = OfGiven front i j (λ text. AtEach (StandsFor heap names) (λ config store. AfterCollect g text (LeavesNothingWhole config n (record { heap = heap; names = names; store = store })))) × (new ≡ old) × failed; write = written }) e
  fault_of_schedule same (BadTrace at kind) f = (OfInput-map front i j f (λ text stop config store stands. trace_fault_in heap names config store stands g in_range n number text kind at stop), same)
  fault_of_schedule same (BadSchedule at kind) f = (OfInput-map front i j f (λ text stop config store stands. schedule_fault_in heap names config store stands g in_range n number text kind at stop), same)
  fault_of_schedule same (HeapFull None) f = absurd f
  fault_of_schedule same (HeapFull (Some at)) f = (OfInput-map front i j f.0 (λ text stop config store stands. blocks_wanted_in heap names config store stands g in_range n number text at stop f.1), same)
  fault_of_schedule same (NoMemory None) f = absurd f
  fault_of_schedule same (NoMemory (Some at)) f = (OfInput-map front i j f (λ text stop config store stands. no_memory_either heap names config store stands g in_range n number text at stop), same)
  fault_of_schedule same (Unsettled line) f = absurd f
  fault_of_schedule same ReadFailed f = (OfGiven-map front i j f.0 (λ text used config store stands. used_up_in heap names config store stands g in_range n number text used), same, f.1)
  fault_of_schedule same WriteFailed f = absurd f

-- what was brought is committed
pub is_collected : (heap : HeapValue) (g : ℕ) (last : System) (collection : CollectionValue) (places : List (Option Place)) (blocks : List BlockValue) (workers : List WorkerLists) (deliveries : List Delivery) → IsBrought heap g last collection places blocks workers deliveries
    → (kept freed : ℕ) (heap' : HeapValue) → CollectedHeap heap collection.generation (renaming_of (young_names heap.graph collection.generation) (all_won workers)) heap'
    → LiveCount heap.graph collection.generation kept → kept ≡ sum_by (λ (w : WorkerLists). length w.won) workers → kept + freed ≡ length (young_names heap.graph collection.generation) → Collects heap g kept freed workers heap'
is_collected heap g last collection places blocks workers deliveries b kept freed heap' moves live sum count = record {
  heap = subst (λ k. CollectedHeap heap k (renaming_of (young_names heap.graph k) (all_won workers)) heap') b.generation_is moves;
  kept_is = subst (λ k. LiveCount heap.graph k kept) b.generation_is live;
  kept_sum = sum;
  freed_is = subst (λ k. kept + freed ≡ length (young_names heap.graph k)) b.generation_is count;
  once = b.once;
}

-- where a schedule brought it
module _ (heap : HeapValue) (g n number : ℕ) (text : List ℕ) (commit : ℕ) (rest : List ℕ) (collection : CollectionValue) (places : List (Option Place)) (blocks : List BlockValue) (workers : List WorkerLists) (deliveries : List Delivery) (b : BringsToCommit heap g n number text commit rest collection places blocks workers deliveries) where
  pub at_commit : StopsAt (OfLine (IsSoundLine (setting_at heap g n))) (setting_at heap g n) (opening_at heap g n) (number + 1) text commit
  at_commit = record {
    lines = b.schedule.lines;
    last = b.last;
    run = b.schedule.run;
    piece = finished b.schedule.ends;
    more = pieces rest;
    pieces_are = b.schedule.pieces_are;
    number_is = b.schedule.number_is;
    holds = record { said = Commit; says = b.schedule.commits; may = b.brought.reports_are.ended };
  }

  module _ (kept freed : ℕ) (heap' : HeapValue) (moves : CollectedHeap heap collection.generation (renaming_of (young_names heap.graph collection.generation) (all_won workers)) heap')
      (live : LiveCount heap.graph collection.generation kept) (sum : kept ≡ sum_by (λ (w : WorkerLists). length w.won) workers) (count : kept + freed ≡ length (young_names heap.graph collection.generation)) where
    collects : Collects heap g kept freed workers heap'
    collects = is_collected heap g b.last collection places blocks workers deliveries b.brought kept freed heap' moves live sum count

    together : CollectsTogether heap g n kept freed workers deliveries heap'
    together =
        let run = lines_run (setting_at heap g n) b.schedule.run in
        record { collects = collects; runs = record { last = b.last; events = run.0; run = run.1; reports_are = b.brought.reports_are } }

    pub collected_to : (names : List (List ℕ × ℕ)) (config : Config) (store : Store) (stands : StandsFor heap names config store) → g < heap.config.shape.generations
        → (printed printed' : Output) → Appends printed printed' (report_text Command g kept freed workers deliveries)
        → HasCollected config n g (record { heap = heap; names = names; store = store }) number text (commit + 1) rest printed printed' (record { heap = heap'; names = names; store = collected config g store })
    collected_to names config store stands in_range printed printed' held = record {
      lines = b.schedule.lines;
      out = report_text Command g kept freed workers deliveries;
      collection = record {
        front = collection_line (codes "collected") g (kept_count store g) (freed_count store g);
        steps = rw (known heap names config store stands g in_range) refl;
        kept = kept;
        freed = freed;
        workers = workers;
        deliveries = deliveries;
        collects = collects;
        last = b.last;
        run = b.schedule.run;
        reports_are = b.brought.reports_are;
        out_is =
            ap (λ k. report_text Command g k freed workers deliveries) (kept_same heap names config store stands g kept freed workers heap' collects)
            ∙ ap (λ f. report_text Command g (kept_count store g) f workers deliveries) (freed_same heap names config store stands g kept freed workers heap' collects);
        names_are = refl;
        holds = stands_collected heap names config store stands g kept freed workers heap' collects (made_by.collected_together g n kept freed workers deliveries stands.made together);
      };
      ends = b.schedule.ends;
      commits = b.schedule.commits;
      pieces_are = b.schedule.pieces_are;
      number_is = omega (arith, b.schedule.number_is);
      held = held;
    }

-- of a schedule that is read
module _ {A : Type 0} (old : Session A) (g n number : ℕ) (in_range : g < old.heap.config.shape.generations) (commit : ℕ) (a b : LinesValue) (i j : Input)
    (collection : CollectionValue) (places : List (Option Place)) (blocks : List BlockValue) (workers : List WorkerLists) (deliveries : List Delivery)
    (brings : Moves a b i j (λ text rest. BringsToCommit old.heap g n number text commit rest collection places blocks workers deliveries)) where
  -- memory is wanted in the schedule's last line
  pub no_memory_read : OfInput a.pending i j (λ text. AtEach (Stands old) (λ config store. AfterCollect g text (λ left. IsSoundAt config n (state_of old store) number left commit [])))
  no_memory_read = stops_moved a b i j brings (λ text rest h config store stands.
      no_memory_in old.heap old.names config store stands g in_range n number text commit (at_commit old.heap g n number text commit rest collection places blocks workers deliveries h))

  pub collects_read : (new : Session A) → new.names ≡ old.names → (kept freed : ℕ) → CollectedHeap old.heap collection.generation (renaming_of (young_names old.heap.graph collection.generation) (all_won workers)) new.heap
      → LiveCount old.heap.graph collection.generation kept → kept ≡ sum_by (λ (w : WorkerLists). length w.won) workers → kept + freed ≡ length (young_names old.heap.graph collection.generation)
      → (printed printed' : Output) → Appends printed printed' (report_text Command g kept freed workers deliveries)
      → Moves a b i j (λ text rest. AtEach (Stands old) (λ config store. CollectsTo new config n g (state_of old store) number text (commit + 1) rest printed printed'))
  collects_read new same kept freed moves live sum count printed printed' held = moves_as a b i j brings (λ text rest h config store stands. record {
    store' = collected config g store;
    collected = subst (λ names. HasCollected config n g (state_of old store) number text (commit + 1) rest printed printed' (record { heap = new.heap; names = names; store = collected config g store })) (sym same)
        (collected_to old.heap g n number text commit rest collection places blocks workers deliveries h kept freed new.heap moves live sum count old.names config store stands in_range printed printed' held);
  })

  pub later_read : number < commit + 1
  later_read =
      let brought = brings.holds [] in
      omega (arith, brought.schedule.number_is)
