-- The definitions of this crate, in the order to read them.
pub mod HostShelf
pub mod MemoryShelf
pub mod Shelf
pub mod Transfers
