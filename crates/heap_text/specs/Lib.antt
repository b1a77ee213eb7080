-- The texts of a heap, of a collection and of its workers, and what a source and a sink are.

pub mod Streams
pub mod HeapLines
pub mod Numbering
pub mod CollectionLine
pub mod ReportText
