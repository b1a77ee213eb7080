-- One worker among several that share cells, draws and queues, as its calls see it.
use Rattle.std.specs.Prelude.{ℕ, ◌+◌, List, [], ◌∷◌, map, Some, slice_index, if◌then◌else◌}
use Rattle.model.specs.Destination.{dest_count}
use Rattle.layout.specs.declared.place.Place.{Place}
use Rattle.layout.specs.Place.{place_word}
use Rattle.block_pool.specs.ClaimsValue.{ClaimsValue, SeatValue}
use Rattle.steps.specs.HeapValue.{HeapValue}
use Rattle.steps.specs.CollectionValue.{CollectionValue, target_of_slot, young_names}
use Rattle.pending_queues.specs.PendingValue.{Source}
use Rattle.pending_queues.specs.PendingValue.{SeatValue as QueueSeatValue}
use Rattle.scavenge.specs.Handed.{CopiesKeyValue}
use Rattle.workers.specs.Block.{Block}
use Rattle.workers.specs.Setting.{Setting, setting_of, is_large_name}
use Rattle.workers.specs.System.{opening_worker}
use Rattle.workers.specs.Worker.{Worker}
use Rattle.scavenge.specs.Shown.{WorkspaceValue}

-- the heap and the collection of it; what all draw from, and the queues of all; how many workers there are; the cells, what the worker knows of them, what it drew, what it sent and took, and its own part
pub record SharingValue (C P A : Type 0) : Type 0 where
  pub heap : HeapValue
  pub collection : CollectionValue
  pub claims : ClaimsValue
  pub queues : Source A CopiesKeyValue
  pub workers : ℕ
  pub cells : C
  pub pass : P
  pub draws : SeatValue
  pub seat : QueueSeatValue A CopiesKeyValue
  pub workspace : WorkspaceValue

-- what so many workers see of a heap that is collected
abbrev pub setting_for : HeapValue → CollectionValue → ℕ → Setting
setting_for heap c n = setting_of heap.graph c.generation heap.config.shape heap.config.block_words n

-- worker t of n begins so
abbrev pub begins : HeapValue → CollectionValue → ℕ → ℕ → Worker
begins heap c n t = opening_worker (dest_count heap.config.shape c.generation) n (map target_of_slot c.slots) t

-- where an object stands whose cell shows this: a large one at its own place, whatever the claim
abbrev pub stands_at : HeapValue → CollectionValue → ℕ → Place → ℕ
stands_at heap c name place = if is_large_name (setting_for heap c 0) name then name else place_word place

-- a win of a cell by its number, as workers see it
abbrev pub forwarded_at : HeapValue → CollectionValue → ℕ × Place → ℕ × ℕ
forwarded_at heap c e = (slice_index (young_names heap.graph c.generation) e.0, stands_at heap c (slice_index (young_names heap.graph c.generation) e.0) e.1)

abbrev pub forwarded_in : HeapValue → CollectionValue → List (ℕ × Place) → List (ℕ × ℕ)
forwarded_in heap c won = map (forwarded_at heap c) won

-- the blocks as worker u exports them, from a position on
abbrev pub labelled_from : ℕ → ℕ → List Block → List Block
labelled_from u i [] = []
labelled_from u i (b ∷ bs) = (let x : Block = record b { sent = Some (u, i) } in x) ∷ labelled_from u (i + 1) bs

module _ {C P A : Type 0} where
  abbrev pub setting_in : SharingValue C P A → Setting
  setting_in v = setting_for v.heap v.collection v.workers

  abbrev pub worker_of : SharingValue C P A → Worker
  worker_of v = v.workspace.worker
