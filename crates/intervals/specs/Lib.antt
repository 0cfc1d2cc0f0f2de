-- The definitions of this crate, in the order to read them.
pub mod Intervals
pub mod Soundness
