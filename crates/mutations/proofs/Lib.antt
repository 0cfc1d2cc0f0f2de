-- The lemmas of this crate.
pub mod ChainLemmas
pub mod Marking
pub mod Applied
pub mod FitsDrawn
