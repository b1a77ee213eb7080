-- What an allocator that refuses requests shows.
pub mod Refused
