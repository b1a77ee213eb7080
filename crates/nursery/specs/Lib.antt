-- What contracts see of a heap's table of blocks, and of a nursery in it.

-- The objects of the blocks of a table.
pub mod Table
pub mod Areas
pub mod Installed
pub mod Begins
pub mod Counts
pub mod NurseryValue
pub mod NurseryView
