-- The definitions of this crate, in the order to read them.
pub mod Views
pub mod BoardOk
pub mod Calls
pub mod Events
pub mod Inside
