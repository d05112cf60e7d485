-- Lemmas of this crate.
pub mod Slices
mod Splices
mod PartsExamples
pub mod GroupSteps
