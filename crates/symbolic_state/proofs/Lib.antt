-- The lemmas of this crate, one subject a file.
pub mod LaterTables
pub mod MadeLater
pub mod Bases
pub mod Shapes
pub mod Places
pub mod KnownCells
pub mod Runs
pub mod Named
pub mod AddressForms
pub mod Touches
pub mod Stored
pub mod Forgetting
pub mod FetchRules
pub mod AtStart
pub mod StartsAgree
pub mod StartLemmas
