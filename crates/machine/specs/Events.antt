-- How events come in a machine.
use Rattle.std.specs.Prelude.{◌≡◌, ℕ, ◌<◌, List, Some, length, take, slice_get}
use Rattle.model.specs.LiveCount.{LiveWords}
use Rattle.model.specs.SpaceBound.{space_bound}
use Rattle.model.specs.Destination.{dest_count}
use Rattle.steps.specs.HeapValue.{HeapValue}
use Rattle.steps.specs.CollectionValue.{IsOpened}
use Rattle.workers.specs.System.{Event}
use Rattle.workers.specs.Steps.{Step, Run}
use Rattle.workers.specs.Lawful.{IsLawful, IsRefused, next_lawful}
use Rattle.workers.specs.Finish.{Stepped}
use Rattle.machine.specs.declared.step_error.StepError.{StepError}
use Rattle.machine.specs.declared.step_error.StepError.TheVariants.{NotLawful, HeapFull, NoMemory}
use Rattle.settling.specs.Collects.{opening_at}
use Rattle.machine.specs.MachineValue.{MachineValue, setting_in}

-- n workers before the first event of a collection of the generations 0 to g
pub record Opens (heap : HeapValue) (g n : ℕ) (m : MachineValue) : Type 0 where
  pub heap_is : m.heap ≡ heap
  pub opened : IsOpened heap g m.collection
  pub workers_are : m.workers ≡ n
  pub first : m.system ≡ opening_at heap g n

-- the same collection of the same heap, by as many workers
pub record IsSameCollection (old new : MachineValue) : Type 0 where
  pub heap : new.heap ≡ old.heap
  pub collection : new.collection ≡ old.collection
  pub workers : new.workers ≡ old.workers

-- the event came
pub record Comes (event : Event) (old new : MachineValue) : Type 0 where
  pub same : IsSameCollection old new
  pub step : Step (setting_in old) old.system event new.system

-- these came one after another
pub record Ran (events : List Event) (old new : MachineValue) : Type 0 where
  pub same : IsSameCollection old new
  pub run : Run (setting_in old) old.system events new.system

-- so many came, each the one that comes next by itself
pub record WentOn (old new : MachineValue) : Type 0 where
  pub same : IsSameCollection old new
  pub count : ℕ
  pub run : Stepped (setting_in old) (next_lawful (setting_in old)) old.system count new.system

-- fewer blocks were free than the space bound of the live words for n workers
abbrev pub IsShortOfBlocks : HeapValue → ℕ → ℕ → Type 0
IsShortOfBlocks heap g n = (words : ℕ) → LiveWords heap.graph g heap.config.block_words words → length heap.free < space_bound words heap.config.block_words n (dest_count heap.config.shape g)

-- the event is a look that wants a block, and none is left: there were too few
pub record IsFullForEvent (event : Event) (m : MachineValue) : Type 0 where
  pub refused : IsRefused (setting_in m) m.system event
  pub short : IsShortOfBlocks m.heap m.collection.generation m.workers

-- what comes next by itself is such a look
pub record IsStuck (m : MachineValue) : Type 0 where
  pub event : Event
  pub is_next : next_lawful (setting_in m) m.system ≡ Some event
  pub full : IsFullForEvent event m

-- those before number i came, and that one didn't: it isn't lawful, or no block is left for it, or memory ran out
pub record Stopped (events : List Event) (i : ℕ) (error : StepError) (old new : MachineValue) : Type 0 where
  pub event : Event
  pub there : slice_get events i ≡ Some event
  pub ran : Ran (take i events) old new
  pub unlawful : error ≡ NotLawful → ¬ IsLawful (setting_in new) new.system event
  pub full : error ≡ HeapFull → IsFullForEvent event new
  pub memory : error ≡ NoMemory → IsLawful (setting_in new) new.system event
