-- Lines, names, what a session stands for, and where a line may be refused.

-- What the names in use are.
pub mod NamesView
-- What a trace prints, line by line, and why a run of it stops.
pub mod Pieces
pub mod Outcome
pub mod Sound
pub mod CollectsFirst
pub mod Carried
pub mod Stepped
pub mod Faults
pub mod Attempts
pub mod FaultText
pub mod Lines
-- What it means that a heap and its named roots stand for a store.
pub mod Made
pub mod Stands
pub mod Session
pub mod Targets
pub mod Refusals
-- The type `Session`.
pub use Rattle.trace_session.specs.declared.session.Session as SessionType
-- What a line does to a session, and where it may be refused.
pub mod Commands
pub mod Does
