-- The definitions of this crate, in the order to read them.
pub mod Terms
pub mod Sources
pub mod Operands
