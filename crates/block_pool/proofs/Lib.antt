-- Laws of objects in words, of sets of numbers and of a pool, and that each draw keeps the rule.

-- Membership, and laws of flags, of bits, of words of flags, of ranks, of groups of words, and of the first flags.
pub mod Containing
pub mod FlagLemmas
pub mod Bits
pub mod NumberSetsWordLemmas
pub mod Ranks
pub mod FirstFlags
pub mod Groups
-- Each draw keeps the rule, and what gathered seats have drawn.
pub mod DrawLemmas
pub mod ClaimLemmas
-- Objects in words, blocks and the pool.
pub mod WordLemmas
pub mod BlockLemmas
pub mod PoolLemmas
pub mod ObjectLemmas
pub mod WriteLemmas
pub mod ReadLemmas
pub mod BeginLemmas
pub mod CopyLemmas
