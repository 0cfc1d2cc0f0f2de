-- The lemmas of this crate.
pub mod FitsLemmas
pub mod RegisterList
