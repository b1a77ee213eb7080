-- One next event after another, to the end.
use Rattle.std.specs.Prelude.{◌≡◌, ℕ, ◌+◌, ◌<◌, ◌≤◌, true, false, List, [], Option, Some, ◌⊎◌, slice_get}
use Rattle.workers.specs.Block.{Block, has_unscanned}
use Rattle.workers.specs.Setting.{Setting, is_collected, destination_of}
use Rattle.workers.specs.Worker.{Worker}
use Rattle.workers.specs.WorkerSteps.{IsOutOfWork}
use Rattle.workers.specs.System.{System, Event, opening}
use Rattle.workers.specs.Steps.{Step}
use Rattle.workers.specs.Steps as steps
use Rattle.workers.specs.Total.{times}
use Rattle.workers.specs.Joined.{Each, blocks_of}
use Rattle.workers.specs.Lawful.{IsRefused, AllEnded}
use Rattle.workers.specs.Measure.{measure}

-- so many events, each the next one
pub data Stepped (setting : Setting) (next : System → Option Event) : System → ℕ → System → Type 0 where
  stay : {s : System} → Stepped setting next s 0 s
  go : {s mid last : System} {event : Event} {count : ℕ} → next s ≡ Some event → Step setting s event mid → Stepped setting next mid count last → Stepped setting next s (count + 1) last

-- what comes next is refused: a look, of one that can look, for which a block is wanted and none is free
pub record IsStuck (setting : Setting) (next : System → Option Event) (s : System) : Type 0 where
  pub event : Event
  pub is_next : next s ≡ Some event
  pub refused : IsRefused setting s event

-- it comes to where all ended, or where a look finds no free block, in no more events than the measure
pub record Finishes (setting : Setting) (next : System → Option Event) (names : List ℕ) (s : System) : Type 0 where
  pub last : System
  pub count : ℕ
  pub run : Stepped setting next s count last
  pub few : count ≤ measure setting names s
  pub ends : AllEnded last ⊎ IsStuck setting next last

-- a state of a run of n workers, with d destinations, those slots and those free blocks
pub record IsReached (setting : Setting) (d n : ℕ) (slots free : List ℕ) (s : System) : Type 0 where
  pub some : 0 < n
  pub room : (name : ℕ) → is_collected setting name ≡ true → destination_of setting name < d
  pub distinct : (k : ℕ) → times k free ≤ 1
  pub events : List Event
  pub run : steps.Run setting (opening d n slots free) events s

-- each worker is out of work, its blocks are scanned, and nothing is queued
pub record NothingLeft (s : System) : Type 0 where
  pub workers : (t : ℕ) (w : Worker) → slice_get s.workers t ≡ Some w → IsOutOfWork w × Each (λ (b : Block). has_unscanned b ≡ false) (blocks_of w)
  pub queues : (u : ℕ) (queue : List Block) → slice_get s.queues u ≡ Some queue → queue ≡ []
