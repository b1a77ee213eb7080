-- The steps of the whole system, and runs of it.
use Rattle.std.specs.Prelude.{◌≡◌, ◌≢◌, ℕ, ◌<◌, true, false, List, [], ◌∷◌, ◌++◌, length, Some, if◌then◌else◌, slice_get, slice_set, Contains, is_some}
use Rattle.std.specs.Bool.{OnTrue}
use Rattle.workers.specs.Block.{Block, updated}
use Rattle.workers.specs.Setting.{Setting}
use Rattle.workers.specs.Worker.{Worker, Proposal}
use Rattle.workers.specs.WorkerSteps.{cell_wanted, draw_wanted, after_look, after_race, after_scan, after_aside, after_take, after_own, after_own_large, CanLook, CanScan, IsFree, IsOutOfWork, has_open_work}
use Rattle.workers.specs.WorkerRun.{proposed_name, proposed_place}
use Rattle.workers.specs.System.{System, Event, Look, Race, Scan, Export, Take, Own, OwnLarge, Idle, Wake, End, cell_of, idle_count, without_number}

-- worker t is this one, and not idle
pub record IsAwake (system : System) (t : ℕ) (worker : Worker) : Type 0 where
  pub is : slice_get system.workers t ≡ Some worker
  pub awake : slice_get system.idle t ≡ Some false

-- the system with one worker changed
abbrev pub with_worker : System → ℕ → Worker → System
with_worker system t worker = record system { workers = slice_set system.workers t worker }

-- worker t loads the cell that its current slot asks for, and draws a block where it wants one
pub record Looks (setting : Setting) (old : System) (t : ℕ) (new : System) : Type 0 where
  pub worker : Worker
  pub at : IsAwake old t worker
  pub can : CanLook setting worker
  pub number : ℕ
  pub drawn : OnTrue (draw_wanted setting worker (cell_of old (cell_wanted setting worker))) (Contains old.free number)
  pub change :
      new ≡ record old {
        workers = slice_set old.workers t (after_look setting worker (cell_of old (cell_wanted setting worker)) number);
        free = if draw_wanted setting worker (cell_of old (cell_wanted setting worker)) then without_number number old.free else old.free;
      }

-- worker t races for what it proposes: it wins where the cell is empty
pub record Races (old : System) (t : ℕ) (new : System) : Type 0 where
  pub worker : Worker
  pub at : IsAwake old t worker
  pub proposal : Proposal
  pub proposed : worker.proposal ≡ Some proposal
  pub change :
      new ≡ record old {
        workers = slice_set old.workers t (after_race worker (cell_of old (Some (proposed_name proposal))));
        forwarded = if is_some (cell_of old (Some (proposed_name proposal))) then old.forwarded else old.forwarded ++ (proposed_name proposal, proposed_place proposal) ∷ [];
      }

-- worker t is done with its current object
pub record Scans (setting : Setting) (old : System) (t : ℕ) (new : System) : Type 0 where
  pub worker : Worker
  pub at : IsAwake old t worker
  pub can : CanScan setting worker
  pub change : new ≡ with_worker old t (after_scan worker)

-- worker t puts the oldest block that it has aside at the back of its queue, labelled
pub record Exports (old : System) (t : ℕ) (new : System) : Type 0 where
  pub worker : Worker
  pub at : IsAwake old t worker
  pub block : Block
  pub rest : List Block
  pub oldest : worker.aside ≡ block ∷ rest
  pub sent : List Block
  pub sent_is : slice_get old.exported t ≡ Some sent
  pub change :
      let labelled = record block { sent = Some (t, length sent) } in
      new ≡ record old {
        workers = slice_set old.workers t (after_aside worker);
        queues = updated (λ q. q ++ labelled ∷ []) old.queues t;
        exported = updated (λ q. q ++ labelled ∷ []) old.exported t;
      }

-- worker t takes the block at the front of queue u in hand
pub record Takes (old : System) (t u : ℕ) (new : System) : Type 0 where
  pub worker : Worker
  pub at : IsAwake old t worker
  pub free : IsFree worker
  pub block : Block
  pub rest : List Block
  pub front : slice_get old.queues u ≡ Some (block ∷ rest)
  pub position : ℕ
  pub labelled : block.sent ≡ Some (u, position)
  pub change :
      new ≡ record old {
        workers = slice_set old.workers t (after_take worker block);
        queues = slice_set old.queues u rest;
        taken = updated (λ l. l ++ (u, position) ∷ []) old.taken t;
      }

-- worker t takes its allocation block for destination d in hand
pub record Owns (old : System) (t d : ℕ) (new : System) : Type 0 where
  pub worker : Worker
  pub at : IsAwake old t worker
  pub free : IsFree worker
  pub work : has_open_work worker d ≡ true
  pub change : new ≡ with_worker old t (after_own worker d)

-- worker t takes a claimed large object in hand
pub record OwnsLarge (old : System) (t : ℕ) (new : System) : Type 0 where
  pub worker : Worker
  pub at : IsAwake old t worker
  pub free : IsFree worker
  pub work : worker.large ≢ []
  pub change : new ≡ with_worker old t (after_own_large worker)

-- worker t, out of work and with an empty queue, is idle
pub record GoesIdle (old : System) (t : ℕ) (new : System) : Type 0 where
  pub worker : Worker
  pub at : IsAwake old t worker
  pub out : IsOutOfWork worker
  pub queue : slice_get old.queues t ≡ Some []
  pub change : new ≡ record old { idle = slice_set old.idle t true }

-- worker t, while some other is not idle, is idle no more
pub record Wakes (old : System) (t : ℕ) (new : System) : Type 0 where
  pub is_idle : slice_get old.idle t ≡ Some true
  pub not_ended : slice_get old.ended t ≡ Some false
  pub some_work : idle_count old < length old.workers
  pub change : new ≡ record old { idle = slice_set old.idle t false }

-- worker t has seen that all are idle
pub record Ends (old : System) (t : ℕ) (new : System) : Type 0 where
  pub is_idle : slice_get old.idle t ≡ Some true
  pub not_ended : slice_get old.ended t ≡ Some false
  pub all_idle : idle_count old ≡ length old.workers
  pub change : new ≡ record old { ended = slice_set old.ended t true }

-- what each event does to the system
abbrev pub Step : Setting → System → Event → System → Type 0
Step setting old (Look t) new = Looks setting old t new
Step setting old (Race t) new = Races old t new
Step setting old (Scan t) new = Scans setting old t new
Step setting old (Export t) new = Exports old t new
Step setting old (Take t u) new = Takes old t u new
Step setting old (Own t d) new = Owns old t d new
Step setting old (OwnLarge t) new = OwnsLarge old t new
Step setting old (Idle t) new = GoesIdle old t new
Step setting old (Wake t) new = Wakes old t new
Step setting old (End t) new = Ends old t new

-- these events, one after another
pub data Run (setting : Setting) : System → List Event → System → Type 0 where
  stay : {s : System} → Run setting s [] s
  go : {s mid e : System} {event : Event} {events : List Event} → Step setting s event mid → Run setting mid events e → Run setting s (event ∷ events) e
