-- What a heap, a collection and a trace mean.

pub mod Graph
pub mod GraphCode
pub mod Slots
pub mod Reached
pub mod Live
pub mod OldSlots
pub mod Destination
pub mod DestinationList
pub mod Collected
pub mod LiveCount
pub mod SpaceBound
pub mod Config
pub mod Room
pub mod Census
pub mod Store
pub mod Text
pub mod Commands
pub mod Rows
pub mod Laws
pub mod Total
