-- The definitions of this crate, one subject a file.
pub mod Intervals
pub mod Soundness
