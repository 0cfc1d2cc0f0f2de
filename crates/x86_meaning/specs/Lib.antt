-- The definitions of this crate, in the order to read them.
pub mod Aligned
pub mod Machine
pub mod Runs
pub mod Outcomes
pub mod Start
pub mod Stated
pub mod StatedCells
pub mod Correct
pub mod Laws
pub mod StartLaws
pub mod Refused
pub mod Touches
pub mod StepLaws
