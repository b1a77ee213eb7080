-- What the calls on nodes do to the heap that they stand in.
use Rattle.std.specs.Prelude.{◌≡◌, ◌≢◌, ℕ, ◌⊎◌, List, Option, Some, None, IsSome, IsSomeAnd, nat_lt, if◌then◌else◌, slice_get, slice_set, option_and_then}
use Rattle.model.specs.Graph.{Graph, root_at, without_root}
use Rattle.model.specs.Config.{Config}
use Rattle.heap.specs.HeapValue.{HeapValue}
use Rattle.heap.specs.ReportValue.{WorkerLists}
use Rattle.heap.specs.Commands.{Allocates, Changes, Stores, rooted_object, pointer_of}
use Rattle.steps.specs.declared.heap_values.report.Delivery.{Delivery}
use Rattle.settling.specs.Collects.{Collects, ScansAlone}
use Rattle.combinators.specs.declared.nodes.Trouble.{Trouble}
use Rattle.combinators.specs.declared.nodes.Trouble.TheVariants.{HeapFull, NoMemory}

-- the sizes of the heap that nodes stand in
abbrev pub node_sizes : Config
node_sizes = record { block_words = 64; blocks = 1000; mutators = 1; nursery_blocks = 4; shape = record { generations = 2; steps = 1 } }

-- a word that is a byte
abbrev pub byte_of : ℕ → Option ℕ
byte_of word = if nat_lt word 256 then Some word else None

-- the letter of the root's node: its first plain word, where it has one and that is a byte
abbrev pub letter_of : Graph → ℕ → Option ℕ
letter_of graph root = option_and_then byte_of (option_and_then (λ o. slice_get o.plain 0) (rooted_object graph root))

-- one worker collected the generations 0 to g, for some g
pub record WasCollected (old new : HeapValue) : Type 0 where
  pub generation : ℕ
  pub kept : ℕ
  pub freed : ℕ
  pub workers : List WorkerLists
  pub deliveries : List Delivery
  pub collects : Collects old generation kept freed workers new
  pub scans : ScansAlone old generation workers deliveries

-- the heap is as it was, or as a collection left it
abbrev pub MayBeCollected : HeapValue → HeapValue → Type 0
MayBeCollected old new = (new ≡ old) ⊎ WasCollected old new

-- the root's node has a pointer i, and it leads to a node
abbrev pub HasChild : Graph → ℕ → ℕ → Type 0
HasChild graph root i = IsSomeAnd (pointer_of graph root i) IsSome

-- roots of a function and of an argument, which aren't the same root
abbrev pub AreParts : Graph → ℕ → ℕ → Type 0
AreParts graph function argument = (function ≢ argument) × IsSome (root_at graph function) × IsSome (root_at graph argument)

-- why no new node was made: there is no room, or no memory
abbrev pub IsWant : Trouble → Type 0
IsWant trouble = (trouble ≡ HeapFull) ⊎ (trouble ≡ NoMemory)

-- a new object, with a new root, in the heap as it was or as a collection left it
pub record AddsNode (old : HeapValue) (pointers plain root : ℕ) (new : HeapValue) : Type 0 where
  pub heap : HeapValue
  pub room : MayBeCollected old heap
  pub allocates : Allocates heap 0 pointers plain root new

-- a new node without pointers, whose word is the letter
pub record AddsSymbol (old : HeapValue) (letter root : ℕ) (new : HeapValue) : Type 0 where
  pub heap : HeapValue
  pub adds : AddsNode old 0 1 root heap
  pub written : Changes heap root (λ o. record o { plain = slice_set o.plain 0 letter }) new

-- a new node without words, whose two pointers lead where these roots did; the roots are given up
pub record AddsApplication (old : HeapValue) (function argument root : ℕ) (new : HeapValue) : Type 0 where
  pub heap : HeapValue
  pub with_function : HeapValue
  pub with_argument : HeapValue
  pub adds : AddsNode old 2 0 root heap
  pub function_set : Stores heap root 0 (Some function) with_function
  pub argument_set : Stores with_function root 1 (Some argument) with_argument
  pub given_up : new ≡ record with_argument { graph = without_root (without_root with_argument.graph function) argument }
