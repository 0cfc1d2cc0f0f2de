-- The lemmas of this crate.
pub mod Moves
pub mod LastPlace
pub mod LegalLemmas
pub mod WindowLaw
pub mod Definers
pub mod Differing
pub mod Deciding
pub mod SameSlots
