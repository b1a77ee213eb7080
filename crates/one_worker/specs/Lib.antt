-- A collection by one worker, event by event.

pub mod SerialValue
pub mod IsSerial
-- One event after another.
pub mod Stepping
-- What it brings to its commit, and why it was not carried out.
pub mod Settling
pub mod Errors
