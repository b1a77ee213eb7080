-- What the calls on nodes do.
pub mod Nodes
