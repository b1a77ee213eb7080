-- What holds of the definitions.
use Rattle.std.specs.Prelude.{◌≡◌, ℕ, ◌<◌, ◌≤◌, ◌↔◌, true, List, length, Some, None, nat_eq}
use Rattle.std.specs.List.{IsDistinct, Contains}
use Rattle.std.specs.Set.{distinct_count}
use Rattle.model.specs.declared.kind.Kind.{Kind}
use Rattle.model.specs.Graph.{Graph, Object, object_at}
use Rattle.model.specs.Reached.{Reached, has, reached_list}
use Rattle.model.specs.Live.{IsYoung, IsOldSlot}
use Rattle.model.specs.LiveCount.{LiveCount, LiveWords}
use Rattle.model.specs.OldSlots.{Slot, old_slots}
use Rattle.model.specs.Destination.{Shape, dest_count}
use Rattle.model.specs.DestinationList.{is_same_step, destinations}
use Rattle.model.specs.Config.{Config}
use Rattle.model.specs.Commands.{Command, meaning}

-- the trace has no fault and writes this
pub record Writes (config : Config) (trace : List Command) (output : List ℕ) : Type 0 where
  pub output_is : (meaning config trace).output ≡ output
  pub no_fault : (meaning config trace).fault ≡ None

-- the trace writes this, and its first fault is in that command, counted from 1
pub record Faults (config : Config) (trace : List Command) (output : List ℕ) (place : ℕ) (kind : Kind) : Type 0 where
  pub output_is : (meaning config trace).output ≡ output
  pub fault_is : (meaning config trace).fault ≡ Some (place, kind)

abbrev pub IsNext : (ℕ → List ℕ) → ℕ → ℕ → Type 0
IsNext next m k = has (next m) k ≡ true

abbrev pub IsIn : List ℕ → ℕ → Type 0
IsIn xs k = has xs k ≡ true

-- the list has exactly what is reached, each once
pub record ListsReached (next : ℕ → List ℕ) (start found : List ℕ) : Type 0 where
  pub distinct : IsDistinct nat_eq found
  pub only : (k : ℕ) → IsIn found k → Reached (IsNext next) (IsIn start) k
  pub all : (k : ℕ) → Reached (IsNext next) (IsIn start) k → IsIn found k

-- with fuel for each of the names that start and steps stay within
abbrev pub ReachedListIsExact : Type 0
ReachedListIsExact =
    (next : ℕ → List ℕ) (start names : List ℕ) (fuel : ℕ) → ((k : ℕ) → IsIn start k → IsIn names k) → ((m k : ℕ) → IsIn names m → IsNext next m k → IsIn names k) → length names ≤ fuel → ListsReached next start (reached_list next fuel start)

abbrev pub LiveCountIsOne : Type 0
LiveCountIsOne = (graph : Graph) (g m n : ℕ) → LiveCount graph g m → LiveCount graph g n → m ≡ n

abbrev pub LiveWordsAreOne : Type 0
LiveWordsAreOne = (graph : Graph) (g block_words x y : ℕ) → LiveWords graph g block_words x → LiveWords graph g block_words y → x ≡ y

abbrev pub GenerationsBelow : Graph → ℕ → Type 0
GenerationsBelow graph generations = (name : ℕ) (o : Object) → object_at graph name ≡ Some o → o.generation < generations

-- an old slot whose target is of generation at most g
pub record IsOldToYoung (graph : Graph) (g : ℕ) (slot : Slot) : Type 0 where
  pub old : IsOldSlot graph g slot.holder slot.field slot.target
  pub young : IsYoung graph g slot.target

abbrev pub OldSlotsAreExact : Type 0
OldSlotsAreExact =
    (graph : Graph) (generations g : ℕ) (slot : Slot) → GenerationsBelow graph generations → (Contains (old_slots graph generations g) slot ↔ IsOldToYoung graph g slot)

-- for each shape that a heap may have
abbrev pub DestCountIsExact : Type 0
DestCountIsExact =
    (shape : Shape) (g : ℕ) → 1 ≤ shape.generations → shape.generations ≤ 4 → 1 ≤ shape.steps → shape.steps ≤ 4 → g < shape.generations → distinct_count is_same_step (destinations shape g) ≡ dest_count shape g
