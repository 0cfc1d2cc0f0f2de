-- The definitions of this crate, in the order to read them.
pub mod Text
pub mod Limits
pub mod Lines
pub mod Stands
pub mod Fields
pub mod Entries
pub mod Reading
pub mod Faults
pub mod Laws
