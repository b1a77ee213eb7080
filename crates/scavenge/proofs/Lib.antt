-- Lemmas of the steps of one worker.

-- What a worker may rely on: where it begins, its destinations, the blocks that it has open, what it won.
pub mod Starts
pub mod StartSlots
pub mod Destinations
pub mod OpenBlocks
pub mod Unchanged
pub mod Drawn
pub mod AllDrawn
pub mod PutBack
-- Lemmas on the blocks and slots of a worker.
pub mod Fields
mod Winning
mod Scans
mod Made
pub mod WorkspaceSlotLemmas
mod Renewing
mod Copying
mod Pushing
mod Begun
mod SlotLemmas
mod Seeing
mod Placing
mod Reserved
mod Empty
mod AtOnce
pub mod Swept
pub mod CursorLemmas
pub mod CopyRaces
mod SmallRaces
mod Goings
mod SweepRoom
mod SweepLeft
