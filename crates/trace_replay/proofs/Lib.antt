-- How a replay goes on, and where it stops.

-- How a schedule goes on, where it stops, and what it brings to a commit.
pub mod SchedulesLineByLine
pub mod SchedulesRead
pub mod FromMachine
pub mod BySchedule
pub mod ByRoom
pub mod RoomSteps
pub mod LineByLine
pub mod ReplaysRead
pub mod WholeTrace
