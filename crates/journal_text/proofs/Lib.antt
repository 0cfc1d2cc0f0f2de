-- The lemmas of this crate.
pub mod Cuts
pub mod FieldsBoth
pub mod SeedsBoth
pub mod EntriesBoth
pub mod StepsBoth
pub mod LinesRead
pub mod Walk
pub mod Sound
pub mod Complete
pub mod LinesBack
pub mod Outcome
pub mod Written
