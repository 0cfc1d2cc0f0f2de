-- The definitions of this crate, in the order to read them.
pub mod Interning
pub mod Indexed
