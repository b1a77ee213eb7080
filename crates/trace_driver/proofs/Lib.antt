-- How a run and a replay end.

pub mod LineByLine
pub mod WholeRun
pub mod Endings
-- What the words of a command line ask for.
pub mod Building
pub mod Reading
pub mod Refusing
