-- Lemmas of a collection by one worker.

pub mod Beginning
pub mod Keeping
pub mod LaneSteps
pub mod Looked
mod Evacuation
pub mod Raced
pub mod Readiness
mod MaySteps
mod Order
pub mod Going
-- What the worker brings to the commit.
mod SettleBrings
mod SettleWhole
mod Concluding
