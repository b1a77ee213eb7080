-- One worker of a collection: its blocks, its part, its steps, and what queues hand over.

-- A block of copies as workers see it, and blocks by destination.
pub mod Named
pub mod Fronts
-- One worker of a collection, as contracts see it.
pub mod Shown
-- What queues hand over in a collection.
pub mod Handed
pub mod Told
-- When a collection may begin, and the parts of a worker as data.
pub mod ReadyToCollect
pub mod Codes
pub mod Waiting
pub mod Slots
pub mod MayStep
pub mod Evacuates
-- A worker that is opened for a sweep, and where it stands.
pub mod Swept
pub mod Cursors
