-- What the cells tell a worker of a name.
use Rattle.std.specs.Prelude.{◌≡◌, ℕ, List, Option, Some, None}
use Rattle.layout.specs.declared.place.Place.{Place}
use Rattle.layout.specs.Place.{place_word}
use Rattle.heap.specs.HeapValue.{HeapValue}
use Rattle.workers.specs.Worker.{Proposal}
use Rattle.workers.specs.WorkerSteps.{after_race}
use Rattle.scavenge.specs.Shown.{WorkspaceValue, IsBid, lost_to, name_of}
use Rattle.heap.specs.CollectionValue.{CollectionValue}
use Rattle.forwarding.specs.declared.cells.outcome.Outcome.{Outcome}
use Rattle.forwarding.specs.declared.cells.outcome.Outcome.TheVariants.{Won, Lost}
use Rattle.forwarding.specs.Learned.{Learns, RaceEnds, place_after}
use Rattle.heap.specs.Found.{HasNumber}

-- what was known is known still
abbrev pub StillKnows : (ℕ → Option Place) → (ℕ → Option Place) → Type 0
StillKnows old new = (number : ℕ) (place : Place) → old number ≡ Some place → new number ≡ Some place

-- a look told the pass this of the name, and the cells give it so
pub record Tells (heap : HeapValue) (c : CollectionValue) (gives : ℕ → Option Place → Type 0) (old new : ℕ → Option Place) (name : ℕ) (shown : Option Place) : Type 0 where
  pub number : ℕ
  pub of : HasNumber heap c name number
  pub given : gives number shown
  pub learns : Learns old new number shown

-- a race with this place told the pass how it ended, and the cells give it so
pub record Ends (heap : HeapValue) (c : CollectionValue) (gives : ℕ → Place → Outcome → Type 0) (old new : ℕ → Option Place) (old_won new_won : List (ℕ × Place)) (name : ℕ) (place : Place) (o : Outcome) : Type 0 where
  pub number : ℕ
  pub of : HasNumber heap c name number
  pub given : gives number place o
  pub learns : Learns old new number (Some (place_after o place))
  pub won : RaceEnds (old number) old_won new_won number place o

-- the place that a lost race gives the slot
abbrev pub lost_of : Option Proposal → Outcome → Option ℕ
lost_of proposal Won = None
lost_of proposal (Lost first) = Some (lost_to (place_word first) proposal)

-- a worker raced for the object with this number: the cells said how it ended, and the worker went on so
pub record RacesAt (number : ℕ) (gives : ℕ → Place → Outcome → Type 0) (old_known new_known : ℕ → Option Place) (old_won new_won : List (ℕ × Place)) (old new : WorkspaceValue) : Type 0 where
  pub outcome : Outcome
  pub bid : Place
  pub fits : IsBid old.claim old.worker.proposal bid
  pub given : gives number bid outcome
  pub learns : Learns old_known new_known number (Some (place_after outcome bid))
  pub won : RaceEnds (old_known number) old_won new_won number bid outcome
  pub worker : new ≡ record old { worker = after_race old.worker (lost_of old.worker.proposal outcome) }

-- a worker raced: the cells said how it ended, and the worker went on so
pub record Races (heap : HeapValue) (c : CollectionValue) (gives : ℕ → Place → Outcome → Type 0) (old_known new_known : ℕ → Option Place) (old_won new_won : List (ℕ × Place)) (old new : WorkspaceValue) : Type 0 where
  pub outcome : Outcome
  pub bid : Place
  pub fits : IsBid old.claim old.worker.proposal bid
  pub ends : Ends heap c gives old_known new_known old_won new_won (name_of old.worker.proposal) bid outcome
  pub worker : new ≡ record old { worker = after_race old.worker (lost_of old.worker.proposal outcome) }
