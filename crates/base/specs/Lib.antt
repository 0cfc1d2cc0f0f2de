-- The definitions of this crate, in the order to read them.
pub mod Options
pub mod Identifiers
pub mod Numbers
