-- The definitions of this crate, in the order to read them.
pub mod Preparing
pub mod Runs
pub mod Checks
pub mod Ended
pub mod Kept
pub mod Answers
pub mod Owned
