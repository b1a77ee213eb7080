-- Lemmas of several workers on one thread, and of a machine of them.
pub mod Places
pub mod Members
pub mod Alone
pub mod Flags
pub mod Readiness
pub mod Reaching
pub mod Raced
pub mod Looked
pub mod Lanes
pub mod Takers
pub mod Handing
pub mod Beginning
pub mod Laws
pub mod Choosing
pub mod Ended
pub mod Delivered
mod Committed
mod Going
mod OneByOne
mod Ordered
