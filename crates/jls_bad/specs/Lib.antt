-- What the contracts of this crate cite.
pub mod ListText
pub mod Known
pub mod Copies
pub mod WholeLaw
pub mod Inside
