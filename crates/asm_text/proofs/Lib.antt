-- The lemmas of this crate.
pub mod Identifiers
pub mod Walks
pub mod Relation
pub mod Going
pub mod Outcome
pub mod NamesBack
pub mod Spelled
pub mod OperandsBack
pub mod InstrBack
pub mod SpellText
pub mod FineText
pub mod LinesBack
pub mod HeaderBack
pub mod RoundTrip
pub mod InstrRead
pub mod InstrFound
pub mod ItemsBoth
