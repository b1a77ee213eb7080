-- Lemmas of the table of blocks, and where a nursery puts a new object.

-- The blocks of a table against the objects that they hold.
pub mod TableLemmas
pub mod TableMap
pub mod BlockFinds
pub mod Numbering
pub mod TableCensus
pub mod TableSteps
pub mod TableReads
pub mod Installed
pub mod Areas
pub mod AreaLaws
pub mod AreaTables
pub mod Installing
pub mod SmallBlocks
pub mod CanCommit
pub mod YoungBlocks
pub mod StepBlocks
pub mod Numbers
pub mod Located
pub mod Nurseries
