-- The definitions of this crate, in the order to read them.
pub mod Numbers
pub mod Legal
pub mod Backed
pub mod Machine
pub mod Laws
