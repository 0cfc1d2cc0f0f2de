-- The definitions of this crate, in the order to read them.
pub mod Registers
pub mod Ranges
pub mod Fits
pub mod Owned
pub mod Mnemonics
pub mod Listings
pub mod Frame
pub mod Access
pub mod Flags
