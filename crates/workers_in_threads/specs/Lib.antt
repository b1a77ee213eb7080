-- Workers of a collection on threads of their own.

-- One worker among several that share cells, draws and queues.
pub mod SharingValue
pub mod SharingCode
pub mod Queued
pub mod IsSharing
pub mod Sharing
-- What each takes to its thread and brings back, and what all bring together.
pub mod Threads
pub mod Kits
pub mod Reported
pub mod Refusing
pub mod CameBack
-- What they leave and report.
pub mod LastPlaces
pub mod Reports
