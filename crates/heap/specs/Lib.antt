-- What the calls on a heap do.

-- What contracts see of roots.
pub mod RootsValue
-- The heap that blocks and roots make, and what a commit does to them.
pub mod Roots
pub mod RootView
pub mod HeapView
pub mod IsHeap
pub mod Moves
pub mod LargeSlots
pub mod Installed
pub mod Ended
-- Remembered sets that grow, and what a collection leaves of them.
pub mod Growth
pub mod Lowest
pub mod Noted
pub mod Commands
pub mod Found
pub mod Whole
pub use Rattle.steps.specs.ConfigRange
pub use Rattle.steps.specs.ConfigView
pub use Rattle.steps.specs.StepPairs
pub use Rattle.heap_objects.specs.Sound
pub use Rattle.heap_objects.specs.Blocks
pub use Rattle.remembered_set.specs.Sets
pub use Rattle.steps.specs.HeapValue
pub use Rattle.steps.specs.CensusCode
pub use Rattle.steps.specs.CensusView
pub use Rattle.steps.specs.Words
pub use Rattle.steps.specs.BlockObjects
pub use Rattle.steps.specs.Numbering
pub use Rattle.steps.specs.CollectionValue
pub use Rattle.steps.specs.SlotView
pub use Rattle.steps.specs.CollectionCode
pub use Rattle.steps.specs.NamesArePlaces
pub use Rattle.steps.specs.ReportValue
pub use Rattle.steps.specs.ReportView
pub use Rattle.steps.specs.Remembered
pub use Rattle.steps.specs.CollectedHeap
pub use Rattle.steps.specs.SettledValue
