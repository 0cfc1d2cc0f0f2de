-- The lemmas of this crate.
pub mod FirstToken
pub mod Walk
pub mod FirstFault
pub mod Spell
pub mod Decimals
pub mod LineText
