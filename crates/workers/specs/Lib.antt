-- A collection by several workers, event by event, over names, and what must come of it.

pub mod Block
pub mod Setting
pub mod Worker
pub mod WorkerSteps
pub mod System
pub mod Steps
pub mod WorkerRun
pub mod Laid
pub mod Ready
pub mod Kept
pub mod Refused
pub mod Ordered
pub mod Joined
pub mod Total
pub mod Places
pub mod Lawful
pub mod Measure
pub mod Finish
pub mod Alone
-- In which order the workers of a run take and scan.
pub mod Taken
pub mod Scans
