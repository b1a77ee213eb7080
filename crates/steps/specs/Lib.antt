-- What contracts see of the sizes of a heap and of its steps, of a heap, and of a collection of it.

pub mod ConfigRange
pub mod ConfigView
pub mod StepPairs
-- What contracts see of a heap, and of a collection of it.
pub mod HeapValue
pub mod CensusCode
pub mod CensusView
pub mod Words
pub mod BlockObjects
pub mod Numbering
pub mod CollectionValue
pub mod SlotView
pub mod CollectionCode
pub mod NamesArePlaces
pub mod Packed
pub mod ReportValue
pub mod ReportView
pub mod Remembered
pub mod CollectedHeap
pub mod SettledValue
-- What contracts see of the memory that a heap keeps.
pub mod SpareValue
