-- The definitions of this crate, in the order to read them.
pub mod Assembly
pub mod Instructions
pub mod Items
pub mod Grammar
pub mod Reading
pub mod Views
pub mod Faults
pub mod Texts
pub mod Laws
