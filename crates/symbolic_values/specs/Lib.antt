-- The definitions of this crate, in the order to read them.
pub mod Steps
pub mod Sourced
pub mod Moving
pub mod Covering
