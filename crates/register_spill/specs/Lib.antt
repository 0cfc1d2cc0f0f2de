-- The definitions of this crate, in the order to read them.
pub mod Spots
pub mod Uses
pub mod Calls
pub mod Inside
pub mod Choosing
pub mod Entering
