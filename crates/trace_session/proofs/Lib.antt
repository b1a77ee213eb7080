-- Lemmas on names, lines, a store and the heap that stands for it, and commands.

-- Lemmas on the names in use.
pub mod NamedLemmas
pub mod NameLists
pub mod InOrder
pub mod NamesLemmas
pub mod NamesOrder
-- Lemmas on the lines of a trace.
pub mod PieceLemmas
pub mod Carrying
pub mod CarriedLemmas
pub mod TextLemmas
pub mod LineLemmas
pub mod CommandFaults
pub mod HandedOn
pub mod SecondAttempt
-- A store and the heap that stands for it, after each change of both.
pub mod StoreObjects
pub mod PlacedNew
pub mod NamedAdded
pub mod NamedNew
pub mod NamedDropped
pub mod StoreLists
pub mod LiveSame
pub mod PlacedCollected
pub mod PresentLists
pub mod CountsSame
pub mod PlacedChanged
pub mod FieldLemmas
pub mod NamesSame
pub mod TextSame
pub mod StandsCollected
pub mod StandsLoaded
pub mod SessionSteps
pub mod FieldSteps
pub mod GetSteps
-- What the commands that print do to a session.
pub mod PrintedSteps
pub mod HeapSteps
-- What a line does that is a command.
pub mod CommandLine
pub mod Twice
pub mod NoMemory
-- The same where workers on threads of their own collect.
pub mod Apart
