-- The definitions of this crate, in the order to read them.
pub mod Tokens
pub mod Comments
pub mod Lines
pub mod Whole
