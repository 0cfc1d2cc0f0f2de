-- The lemmas of this crate, one subject a file.
pub mod MisshapenLemmas
pub mod TokenCount
pub mod ReadWidths
pub mod ListWidths
