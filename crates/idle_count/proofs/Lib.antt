-- Laws of the count of idle seats.
pub mod IdleLemmas
pub mod SeatLemmas
