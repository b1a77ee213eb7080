-- What contracts see of a heap's objects, small and large, and what holds of them inside.

-- What contracts see of the blocks of a heap.
pub mod Nursery
pub mod Space
pub mod HeapSpaceCollecting
-- The objects of blocks, and the large ones, as those of a graph.
pub mod WithLarge
pub mod HeapGraph
pub mod Objects
pub mod Blocks
pub mod Sound
pub mod Collecting
pub mod Inside
pub mod Large
pub mod Renewing
