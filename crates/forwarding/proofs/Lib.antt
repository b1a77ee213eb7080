-- Lemmas on pairs, and that cells of each kind keep their rule and settle.

-- Pairs of names and places, counted and looked up.
pub mod PairLemmas
pub mod Few
pub mod Wins
pub mod Agreeing
-- What each of two steps leaves as it was, both do.
pub mod PassLaws
-- Words that settling answers with show the places that they are the words of.
pub mod ShownPlace
pub mod ShortWords
pub mod Closing
-- Plain cells keep what they are, and settle.
pub mod PlainKeeps
pub mod PlainStart
pub mod PlainSettled
-- Each step keeps the rule, and what gathered passes read.
pub mod Keeps
pub mod Told
pub mod Gathered
pub mod Read
-- What notes tell, and what passes that were compared settle.
pub mod Noting
pub mod Joining
pub mod Settling
-- New passes of shared cells.
pub mod Fresh
