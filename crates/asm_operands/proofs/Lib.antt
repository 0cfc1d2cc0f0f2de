-- The lemmas of this crate.
pub mod Tables
pub mod NamesBack
pub mod GrammarFound
pub mod GrammarRead
