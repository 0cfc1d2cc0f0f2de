-- The lemmas of this crate.
pub mod Digits
pub mod Options
pub mod Arithmetic
