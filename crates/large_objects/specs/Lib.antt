-- What contracts see of large objects.
pub mod LargeValue
pub mod PoolBlocks
pub mod Stored
