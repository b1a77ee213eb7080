-- What a block, a pool, a set of numbers and claims are, and how objects lie in the words of a block.

-- Sets of numbers below a limit, and how they lie in words.
pub mod Members
pub mod NumberSetsWords
-- Claims and their seats as contracts see them, and their rule.
pub mod Drawn
pub mod ClaimsValue
-- Blocks and pools as contracts see them, and the words of a block.
pub mod BlockValue
pub mod Words
pub mod PoolValue
