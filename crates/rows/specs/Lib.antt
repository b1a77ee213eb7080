-- Fronts of a text, for outputs that were cut short.

pub mod Fronts
