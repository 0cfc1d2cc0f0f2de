-- The lemmas of this crate.
pub mod Ending
pub mod Journals
pub mod Programs
pub mod Storing
