-- The definitions of this crate, in the order to read them.
pub mod Names
pub mod Operands
pub mod Grammar
