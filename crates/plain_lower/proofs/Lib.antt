-- The lemmas of this crate.
pub mod SlotOps
pub mod Parts
pub mod BlockParts
pub mod Whole
pub mod Templates
pub mod FirstValues
