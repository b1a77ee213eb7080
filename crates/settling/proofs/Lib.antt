-- Lemmas of what workers bring to a commit.

pub mod Blocks
pub mod EndedLists
pub mod SettleLists
-- Each number has the place of its name, a large object its own.
mod ShownLarge
pub mod LargeDone
-- Reports, blocks and deliveries, one worker after another.
pub mod Parted
pub mod ToldLists
-- What the workers bring may be committed.
mod Entries
pub mod Bridge
