-- When a worker of an opened collection may look at a slot, race, and draw a block, and what a step leaves as it was.
use Rattle.std.specs.Prelude.{◌≡◌, ◌<◌, ℕ, List, [], ◌∷◌, ◌++◌, Option, None, IsSome, true}
use Rattle.std.specs.List.{All, Contains}
use Rattle.model.specs.Graph.{IsClosed, object_at}
use Rattle.layout.specs.declared.place.Place.{Place}
use Rattle.block_pool.specs.ClaimsValue.{Source, SeatValue, IsSeatOf}
use Rattle.block_pool.specs.Drawn.{times_in}
use Rattle.heap.specs.HeapValue.{HeapValue}
use Rattle.heap.specs.CollectionValue.{CollectionValue, IsOpened}
use Rattle.heap.specs.NamesArePlaces.{NamesArePlaces}
use Rattle.workers.specs.WorkerSteps.{current_slot}
use Rattle.workers.specs.Ready.{CanFinish, IsUntouched}
use Rattle.workers.specs.Joined.{Each}
use Rattle.scavenge.specs.Shown.{WorkspaceValue}
use Rattle.scavenge.specs.Slots.{seen}
use Rattle.scavenge.specs.Told.{StillKnows}

-- the collection is open, each pointer of the heap leads to an object, and the workspace is one of its workers
pub record IsOpenFor (heap : HeapValue) (c : CollectionValue) (v : WorkspaceValue) : Type 0 where
  pub opened : IsOpened heap c.generation c
  pub closed : IsClosed heap.graph
  pub places : NamesArePlaces heap.graph
  pub config : v.config ≡ heap.config

-- each of the names is that of an object
abbrev pub AreThere : HeapValue → List ℕ → Type 0
AreThere heap names = Each (λ name. IsSome (object_at heap.graph name)) names

-- nothing is proposed, and the current slot, where there is one, is as it was in the original and can be finished
pub record MayLook (heap : HeapValue) (c : CollectionValue) (v : WorkspaceValue) : Type 0 where
  pub proposal : v.worker.proposal ≡ None
  pub slot : IsSome (current_slot (seen heap c) v.worker) → CanFinish v.worker v.worker.starts
  pub few : v.worker.fields < 4294967296
  pub untouched : IsUntouched (seen heap c) v.worker

-- something is proposed, and the current slot can be finished
pub record MayRace (v : WorkspaceValue) : Type 0 where
  pub proposal : IsSome v.worker.proposal
  pub slot : CanFinish v.worker v.worker.starts
  pub few : v.worker.fields < 4294967296

-- the seat is one of these claims, each number of which can be that of a block
pub record MayDraw (source : Source) (old : SeatValue) : Type 0 where
  pub seat : IsSeatOf source old
  pub numbers : All (λ number. number < 65535) source.free

-- a step that races for nothing: the cells are as before, and the pass has won what it had won and knows what it knew
pub record OnlyLooks {Cells Pass : Type 0} (wins : Pass → List (ℕ × Place)) (knows : Pass → ℕ → Option Place) (c : Cells) (p : Pass) (c' : Cells) (p' : Pass) : Type 0 where
  pub cells : c' ≡ c
  pub won : wins p' ≡ wins p
  pub lasts : StillKnows (knows p) (knows p')

-- the seat is one of these claims still, and a number that it drew was free, and not drawn by it before
pub record Draws (source : Source) (old new : SeatValue) : Type 0 where
  pub seat : IsSeatOf source new
  pub fresh : (n : ℕ) → new.drawn ≡ old.drawn ++ n ∷ [] → Contains source.free n × ¬ Contains old.drawn n

-- the seat found no number left, which where it is the only one means that it drew them all
pub record FindsNone (source : Source) (old new : SeatValue) : Type 0 where
  pub out : new ≡ record old { out = true }
  pub used_up : source.seats ≡ 1 → (x : ℕ) → times_in x old.drawn ≡ times_in x source.free
