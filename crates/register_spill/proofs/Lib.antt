-- The lemmas of this crate.
pub mod UseLemmas
pub mod NextUse
pub mod SpotLemmas
pub mod FreeLemmas
pub mod FarthestLemmas
