-- What the program does, and how a run of a trace ends.

pub use Rattle.trace_session.specs.Pieces
pub use Rattle.trace_session.specs.Outcome
pub use Rattle.trace_session.specs.Sound
pub use Rattle.trace_session.specs.CollectsFirst
pub use Rattle.trace_session.specs.Carried
pub use Rattle.trace_session.specs.Faults
pub use Rattle.trace_session.specs.FaultText
pub use Rattle.trace_replay.specs.Replays
pub use Rattle.trace_replay.specs.ReplayStops
pub mod RunValue
pub mod Running
pub mod Program
-- What the words of a command line ask for, or why they ask for no run, and what is told of it.
pub mod Refusals
pub mod Gctrace
pub mod Defaults
pub mod Asked
-- How the program ends by the words of its command line.
pub mod Whole
