-- Blocks of the pool, words and numbers of large objects.
pub mod BlockSets
pub mod Numbered
pub mod OnePool
pub mod RawLemmas
