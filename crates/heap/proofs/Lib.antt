-- The heap's roots and its commands.

-- Flags of the numbers in use.
pub mod Flagged
-- A collection's end.
pub mod RootMap
pub mod GraphIn
pub mod Ranks
pub mod CopyWords
pub mod FieldSlots
pub mod KeptSlots
pub mod Rewriting
pub mod RenamedRoots
pub mod SettledLemmas
pub mod LargeFields
pub mod FieldsMoved
pub mod MovedFields
pub mod Committed
pub mod Writable
pub mod CommitCalls
pub mod KeptCount
-- Remembered sets against the graph.
pub mod SameSupport
pub mod MemberSlots
pub mod Grown
pub mod NotedCopies
pub mod LowestBlocks
pub mod LargeNoted
pub mod Pointing
pub mod Holding
pub mod WithSets
pub mod AfterCollection
pub mod HeapLemmas
pub mod Allocating
pub mod Storing
pub mod Loading
pub mod RootSlots
pub mod SoundHeap
pub mod OpenedHeap
pub mod FoundHere
pub mod Covering
pub mod Wholes
pub mod Noting
