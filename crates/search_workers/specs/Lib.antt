-- The definitions of this crate, in the order to read them.
pub mod Offers
pub mod Later
pub mod Nexts
