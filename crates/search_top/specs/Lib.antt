-- The definitions of this crate, in the order to read them.
pub mod Outputs
pub mod Search
pub mod Lanes
pub mod Eval
pub mod Emulate
pub mod Check
pub mod Show
pub mod Replay
pub mod Commands
