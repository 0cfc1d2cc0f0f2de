-- The definitions of this crate, in the order to read them.
pub mod Rules
pub mod Checks
pub mod Laws
pub mod Inside
