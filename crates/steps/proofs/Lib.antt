-- What follows from the ranges of a heap's sizes, and of destinations.

pub mod Ranges
pub mod Placing
pub mod Numbers
-- Lemmas on objects and on what was won.
pub mod Values
pub mod WonNames
