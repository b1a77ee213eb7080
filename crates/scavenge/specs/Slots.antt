-- What the slots of a worker hold, and what a look changes.
use Rattle.std.specs.Prelude.{◌≡◌, ℕ, Bool, true, false, [], ◌∷◌, ◌++◌, Option, Some, None, if◌then◌else◌}
use Rattle.std.specs.Option.{option_map}
use Rattle.layout.specs.declared.place.Place.{Place}
use Rattle.layout.specs.Place.{place_word}
use Rattle.block_pool.specs.ClaimsValue.{SeatValue}
use Rattle.heap.specs.HeapValue.{HeapValue}
use Rattle.heap.specs.CollectionValue.{CollectionValue}
use Rattle.workers.specs.Setting.{Setting, setting_of, destination_of, destination_number, is_large_name}
use Rattle.workers.specs.WorkerSteps.{cell_wanted, draw_wanted, draws_for, with_new_block, look_at, after_look}
use Rattle.scavenge.specs.Named.{IsDestination}
use Rattle.scavenge.specs.Shown.{WorkspaceValue}
use Rattle.scavenge.specs.Told.{Tells}

-- what workers see of a heap that is collected; how many they are is of no account to a step
abbrev pub seen : HeapValue → CollectionValue → Setting
seen heap c = setting_of heap.graph c.generation heap.config.shape heap.config.block_words 0

-- the same, for what asks for the objects alone
abbrev pub objects_of : HeapValue → Setting
objects_of heap = setting_of heap.graph 0 heap.config.shape heap.config.block_words 0

-- the small object with this name goes to this destination, which has this number
pub record GoesTo (heap : HeapValue) (name : ℕ) (to : ℕ × ℕ) (d : ℕ) : Type 0 where
  pub small : is_large_name (objects_of heap) name ≡ false
  pub is_destination : IsDestination heap.config.shape to
  pub number : d ≡ destination_number heap.config.shape to
  pub of : d ≡ destination_of (objects_of heap) name

-- a block was drawn for the destination
pub record Renews (d : ℕ) (seat seat' : SeatValue) (old new : WorkspaceValue) : Type 0 where
  pub number : ℕ
  pub drawn : seat' ≡ record seat { drawn = seat.drawn ++ number ∷ [] }
  pub worker : new ≡ record old { worker = with_new_block old.worker d number }

abbrev pub seat_after : SeatValue → Bool → ℕ → SeatValue
seat_after seat drew number = if drew then record seat { drawn = seat.drawn ++ number ∷ [] } else seat

-- the object with this name, whose cell is empty, was proposed
pub record Proposes (setting : Setting) (name : ℕ) (seat seat' : SeatValue) (old new : WorkspaceValue) : Type 0 where
  pub number : ℕ
  pub drawn : seat' ≡ seat_after seat (draws_for setting old.worker name) number
  pub worker : new ≡ record old { worker = look_at setting old.worker None number name }

-- where a name stands whose cell shows this: a large object at its own place, whatever the claim
abbrev pub cell_of : Setting → Option ℕ → Option Place → Option ℕ
cell_of setting None shown = None
cell_of setting (Some name) shown = option_map (λ place. if is_large_name setting name then name else place_word place) shown

abbrev pub IsTold : HeapValue → CollectionValue → (ℕ → Option Place → Type 0) → (ℕ → Option Place) → (ℕ → Option Place) → Option Place → Option ℕ → Type 0
IsTold heap c gives old new shown None = old ≡ new
IsTold heap c gives old new shown (Some name) = Tells heap c gives old new name shown

-- a worker looked: the cells told of the target, where it is collected, and a block was drawn, where one was wanted
pub record Looks (heap : HeapValue) (c : CollectionValue) (gives : ℕ → Option Place → Type 0) (old_known new_known : ℕ → Option Place) (seat seat' : SeatValue) (old new : WorkspaceValue) : Type 0 where
  pub shown : Option Place
  pub number : ℕ
  pub told : IsTold heap c gives old_known new_known shown (cell_wanted (seen heap c) old.worker)
  pub drawn : seat' ≡ seat_after seat (draw_wanted (seen heap c) old.worker (cell_of (seen heap c) (cell_wanted (seen heap c) old.worker) shown)) number
  pub worker : new ≡ record old { worker = after_look (seen heap c) old.worker (cell_of (seen heap c) (cell_wanted (seen heap c) old.worker) shown) number }

-- the cell of the current slot's target is empty, and a copy of it wants a block
pub record WantsBlock (heap : HeapValue) (c : CollectionValue) (gives : ℕ → Option Place → Type 0) (old_known new_known : ℕ → Option Place) (w : WorkspaceValue) : Type 0 where
  pub told : IsTold heap c gives old_known new_known None (cell_wanted (seen heap c) w.worker)
  pub wanted : draw_wanted (seen heap c) w.worker None ≡ true
