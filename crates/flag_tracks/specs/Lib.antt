-- The definitions of this crate, in the order to read them.
pub mod Homes
pub mod Inside
