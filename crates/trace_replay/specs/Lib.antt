-- What the replay of a trace prints, and where it stops.

pub mod Naming
-- What the lines of a schedule do, where they stop, and what they bring to a commit.
pub use Rattle.machine.specs.Events
pub mod Runs
pub mod Stops
pub mod Brought
pub mod Replays
pub mod ReplayStops
pub use Rattle.trace_session.specs.Refusals
pub use Rattle.trace_session.specs.Session
