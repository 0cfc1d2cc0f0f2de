-- The lemmas of this crate, one subject a file.
pub mod Taking
pub mod RuleLemmas
pub mod Looks
pub mod Steps
pub mod StepFacts
pub mod Counting
pub mod LegalPlans
pub mod NoFailure
pub mod LawLemmas
pub mod OneFault
pub mod ListingFaults
