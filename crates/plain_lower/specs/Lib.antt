-- The definitions of this crate, in the order to read them.
pub mod Frame
pub mod Blocks
pub mod Plain
