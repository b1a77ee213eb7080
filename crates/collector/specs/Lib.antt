-- How collections by threads are carried out.
pub mod CrewValue
