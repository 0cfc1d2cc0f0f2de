-- The lemmas of this crate.
pub mod Due
pub mod Appended
