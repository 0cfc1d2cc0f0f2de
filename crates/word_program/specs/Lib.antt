-- The definitions of this crate, in the order to read them.
pub mod Program
pub mod Values
pub mod Walk
pub mod Rules
pub mod Accepted
pub mod Evaluates
pub mod Failing
