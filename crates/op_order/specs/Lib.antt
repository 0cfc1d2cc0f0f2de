-- The definitions of this crate, in the order to read them.
pub mod Plans
pub mod Legal
pub mod Windows
pub mod Realises
