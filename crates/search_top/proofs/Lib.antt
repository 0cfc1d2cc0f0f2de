-- The lemmas of this crate.
pub mod Openings
pub mod OutputWords
pub mod StatedOutputs
pub mod Within
pub mod Ends
pub mod Successes
