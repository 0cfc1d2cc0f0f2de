-- The lemmas of this crate.
pub mod HomeLemmas
pub mod HolderLemmas
