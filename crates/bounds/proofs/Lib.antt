-- The lemmas of this crate, one subject a file.
pub mod TableLemmas
pub mod Soundness
