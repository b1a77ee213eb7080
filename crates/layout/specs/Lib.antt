-- The words of places, headers and objects.
pub mod Place
pub mod Header
pub mod Object
pub mod ObjectRef
