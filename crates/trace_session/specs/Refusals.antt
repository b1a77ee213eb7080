-- Where the heap's own refusals can come.
use Rattle.std.specs.Prelude.{ℕ, ◌+◌, ◌<◌, ◌⊎◌, List, length, Option, Some, Result, Ok, IsTrue}
use Rattle.model.specs.declared.kind.Kind.{Kind}
use Rattle.model.specs.Config.{Config}
use Rattle.model.specs.Store.{Store}
use Rattle.model.specs.Commands.{Command, New, Collect, is_large_size}
use Rattle.heap.specs.HeapValue.{HeapValue}
use Rattle.heap.specs.Commands.{wanted_blocks}
use Rattle.workers_in_threads.specs.Reports.{IsShortOfBlocksFor, IsStuckFor}
use Rattle.trace_text.specs.Grammar.{entry_of}
use Rattle.trace_session.specs.Sound.{IsSoundTraceLine, IsSoundCommand}
use Rattle.trace_session.specs.CollectsFirst.{CollectsFirst, LineCollectsFirst}
use Rattle.trace_session.specs.Stands.{StandsFor}

-- the heap is full for n workers who collect the generations 0 to g: they come to a look that wants a block where none is free, and fewer are free than the space bound
pub record IsFullToCollect (heap : HeapValue) (g n : ℕ) : Type 0 where
  pub short : IsShortOfBlocksFor heap g n
  pub stuck : IsStuckFor heap g n

-- a heap that stands for the store is full for them
pub record HasFullHeap (n : ℕ) (config : Config) (store : Store) (g : ℕ) : Type 0 where
  pub heap : HeapValue
  pub names : List (List ℕ × ℕ)
  pub stands : StandsFor heap names config store
  pub full : IsFullToCollect heap g n

-- the object is large, and in this heap fewer blocks are free than it takes: nothing is collected for it
pub record LacksBlocks (heap : HeapValue) (p q : ℕ) : Type 0 where
  pub large : IsTrue (is_large_size heap.config (1 + p + q))
  pub few : length heap.free < wanted_blocks heap p q

-- in a heap that stands for the store the object lacks blocks
pub record LacksBlocksFor (config : Config) (store : Store) (p q : ℕ) : Type 0 where
  pub heap : HeapValue
  pub names : List (List ℕ × ℕ)
  pub stands : StandsFor heap names config store
  pub lacks : LacksBlocks heap p q

-- a collection by n workers for which the heap is full, or a small object without room and a heap that is full for the collection of
-- generation 0, or a large object that lacks blocks
abbrev pub WantsBlocks : ℕ → Config → Store → Command → Type 0
WantsBlocks n config store (Collect g) = HasFullHeap n config store g
WantsBlocks n config store (New text mutator p q) = (CollectsFirst config store (New text mutator p q) × HasFullHeap n config store 0) ⊎ LacksBlocksFor config store p q
WantsBlocks n config store _ = ⊥

abbrev pub ReadWantsBlocks : ℕ → Config → Store → Result (Option Command) Kind → Type 0
ReadWantsBlocks n config store (Ok (Some command)) = WantsBlocks n config store command
ReadWantsBlocks n config store _ = ⊥

-- this heap is full for what was read: a large object lacks blocks in it, or it is full for the collection by n workers
abbrev pub IsFullFor : ℕ → HeapValue → Result (Option Command) Kind → Type 0
IsFullFor n heap (Ok (Some (New text mutator p q))) = LacksBlocks heap p q
IsFullFor n heap (Ok (Some (Collect g))) = IsFullToCollect heap g n
IsFullFor n heap _ = ⊥

-- this heap is full for the line, or for the collection of generation 0 by n workers that comes before a new object
abbrev pub IsFullForLine : ℕ → HeapValue → Config → Store → List ℕ → Type 0
IsFullForLine n heap config store line = IsFullFor n heap (entry_of line) ⊎ (LineCollectsFirst config store line × IsFullToCollect heap 0 n)

-- the command has no fault at this store, and blocks are wanting in it where n workers collect
pub record CommandMayBeFull (n : ℕ) (config : Config) (store : Store) (command : Command) : Type 0 where
  pub sound : IsSoundCommand config store command
  pub wants : WantsBlocks n config store command

-- the same of a line
pub record MayBeFull (n : ℕ) (config : Config) (store : Store) (line : List ℕ) : Type 0 where
  pub sound : IsSoundTraceLine config store line
  pub wants : ReadWantsBlocks n config store (entry_of line)
