-- The lemmas of this crate.
pub mod OwnedLines
pub mod Quiet
pub mod Rows
pub mod BlockParts
pub mod Whole
pub mod Owners
pub mod Kept
pub mod SlotBlocks
