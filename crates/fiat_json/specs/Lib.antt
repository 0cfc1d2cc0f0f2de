-- The definitions of this crate, one subject a file.
pub mod Shape
pub mod Reading
pub mod Misshapen
pub mod Widths
