-- What cells of each kind tell their callers.

-- What a pass of cells learns, and what cells answer in the end.
pub mod Learned
pub mod KeepsPasses
pub mod Settled
pub mod Known
-- The words that settling answers with.
pub mod Forwards
pub mod ShortWords
pub mod ShownWords
-- Plain cells as contracts see them.
pub mod Plain
pub mod Minds
-- The rule of the words, and word cells as contracts see them.
pub mod Kept
pub mod Words
-- Boxed cells and their passes as contracts see them.
pub mod Noted
pub mod Boxed
pub mod Gathered
pub mod BoxSettled
-- Passes of shared cells, by the number of the worker.
pub mod Passes
-- What contracts see of the memory that cells leave.
pub mod CellMemoryValue
pub mod MemoryLists
