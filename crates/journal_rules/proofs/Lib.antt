-- The lemmas of this crate.
pub mod Lists
pub mod NumberLemmas
pub mod Legality
pub mod Runs
