-- The lemmas of this crate, one subject a file.
pub mod Induction
pub mod OutputNodes
pub mod ProvedCorrect
pub mod AtEnd
pub mod OwnedLines
