-- The forms in which the plain program computes, and its store as contracts see it.

-- The parts of a store as data, and how names and rows are looked up.
pub mod Table
pub mod NamePlace
pub mod RoomCode
-- The forms of the computation, and a store as data.
pub mod Plain
pub mod StoreCode
