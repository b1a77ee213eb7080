-- Queues of blocks, as callers see them, and the rules that they keep.

-- A tally and its seats, as callers see them, and the rule that they keep.
pub mod TallyValue
pub mod Tallied
-- The labels of exported blocks, and how what became of each block is written down.
pub mod Labelled
pub mod Written
-- One queue, as callers see it, and the rule that it keeps.
pub mod PassValue
pub mod LaneRule
-- Queues of one thread, as callers see them, and what they keep.
pub mod PlainValue
pub mod PlainKept
-- Queues that threads share and their seats, as callers see them, and what closing tells of them.
pub mod PendingValue
pub mod SeatPass
pub mod Delivered
pub mod Telling
pub mod Gathered
pub mod Seated
pub mod Dealt
