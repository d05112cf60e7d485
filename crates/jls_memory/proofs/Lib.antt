-- Lemmas of this crate.
pub mod Reading
pub mod Written
pub mod Kept
pub mod Grown
pub mod Handed
mod DeskExamples
mod Finding
mod Lengthening
