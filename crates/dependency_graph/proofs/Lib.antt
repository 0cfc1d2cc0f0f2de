-- The lemmas of this crate.
pub mod TransposeLemmas
pub mod NeedLemmas
pub mod OrderLemmas
