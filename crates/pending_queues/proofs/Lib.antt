-- Lemmas on queues, tallies, seats, and what closing tells.

-- Lemmas on tallies.
pub mod TallyLemmas
-- Lemmas on lists of lists.
pub mod WrittenLists
-- Lemmas on one queue and its blocks.
pub mod LaneLists
pub mod LaneMoves
-- Lemmas on queues of one thread.
pub mod PlainLists
pub mod PlainSteps
-- Lemmas on lists by their places, and on what seats tell together.
pub mod Places
pub mod Kept
pub mod Naming
pub mod Unique
pub mod Told
pub mod TellingLists
pub mod Gathering
pub mod Seating
pub mod Dealing
pub mod Joining
pub mod Sharing
pub mod Crossing
