-- The definitions of this crate, in the order to read them.
pub mod Status
pub mod Change
pub mod Files
pub mod Loading
pub mod Writes
pub mod Ends
