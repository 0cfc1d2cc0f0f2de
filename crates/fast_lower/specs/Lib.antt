-- The definitions of this crate, in the order to read them.
pub mod Taken
pub mod Sources
pub mod Named
pub mod Fast
pub mod FallBack
