-- The definitions of this crate, in the order to read them.
pub mod Tables
pub mod Forms
pub mod Meaning
pub mod Sums
pub mod Rules
pub mod Grown
pub mod Joining
