-- Lemmas on maps with numbers as keys, on graphs and on what a trace means.

pub mod NatMap
pub mod SlotMap
pub mod LiveLemmas
pub mod ReachedList
pub mod RowProofs
pub mod Has
pub mod Same
pub mod Rising
pub mod SpreadLemmas
pub mod TargetLemmas
pub mod Among
pub mod OldSlotsExact
pub mod DestCount
pub mod Destinations
pub mod DestNumber
pub mod ClosedLemmas
pub mod SpreadSame
pub mod Options
pub mod Finds
pub mod RisingKeys
pub mod MapKeys
pub mod KeyLists
pub mod Joined
pub mod Totals
pub mod Times
