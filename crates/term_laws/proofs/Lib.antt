-- The lemmas of this crate, one subject a file.
pub mod BitOpened
pub mod CarryBits
pub mod Entries
pub mod LaterRules
pub mod Noughts
pub mod Readers
pub mod Rotations
pub mod ShiftBack
pub mod Stable
pub mod SumNodes
pub mod SumOpened
pub mod SumSpread
pub mod SumTables
pub mod SumTerms
pub mod SumsAlike
pub mod Turned
