-- The lemmas of this crate.
pub mod Kept
pub mod Stored
pub mod Played
pub mod Inside
pub mod Settling
pub mod Starting
