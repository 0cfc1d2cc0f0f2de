-- The definitions of this crate, in the order to read them.
pub mod Symbols
pub mod Cells
pub mod Fetching
pub mod Starts
pub mod Fitting
pub mod Agreeing
pub mod Written
