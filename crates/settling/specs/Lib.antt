-- What workers bring to the commit of a collection, and what a collection leaves and reports.

-- What a collection leaves and reports.
pub mod OwnDeliveries
pub mod Collects
pub mod Together
-- What is made of the workers' parts, and of what the queues tell.
pub mod Shown
pub mod Telling
pub mod Brings
