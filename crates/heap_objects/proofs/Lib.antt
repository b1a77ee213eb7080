-- Small and large objects side by side.

-- The blocks of a heap against the objects that they hold.
pub mod Pushing
pub mod Sound
pub mod Shapes
pub mod Filling
pub mod YoungNumbers
pub mod Finding
pub mod Places
pub mod Lying
pub mod Facts
pub mod Lending
pub mod PutIn
pub mod GrownTable
pub mod Replacing
pub mod Changed
pub mod FieldWrites
pub mod Empty
-- The objects of blocks, and the large ones, as those of a graph.
pub mod FieldSlots
pub mod WithLarge
pub mod GraphObjects
pub mod HeldObjects
pub mod Remembering
pub mod LargeReads
pub mod LargeCounts
pub mod Sides
pub mod OwnBlocks
pub mod ObjectReads
pub mod Changes
pub mod Written
pub mod Allocated
pub mod LargeAdded
pub mod SoundObjects
pub mod WithRoots
pub mod Counts
pub mod LargeSizes
pub mod YoungLarge
pub mod Numbers
pub mod Finds
pub mod Beginning
pub mod Renewals
pub mod Replaced
