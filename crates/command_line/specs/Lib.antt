-- The definitions of this crate, in the order to read them.
pub mod Table
pub mod Inputs
pub mod Numbers
pub mod Lanes
pub mod Laws
pub mod Lines
