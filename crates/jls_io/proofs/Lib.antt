-- Lemmas of this crate.
pub mod CellMade
pub mod Growing
pub mod Known
pub mod Writes
pub mod Handed
mod LineExamples
mod NameExamples
