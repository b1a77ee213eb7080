-- Sets of places by generation, and a place's number among flags.
pub mod Sets
pub mod Marks
