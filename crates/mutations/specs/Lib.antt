-- The definitions of this crate, in the order to read them.
pub mod Words
pub mod Chains
pub mod Mutations
pub mod Marks
