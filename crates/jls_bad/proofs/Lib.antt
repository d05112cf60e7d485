-- Lemmas of this crate.
pub mod DigitLoops
pub mod ListLines
pub mod MarkedPlaces
pub mod FilledBytes
pub mod Knowing
pub mod KnownLoop
pub mod WholeCopies
mod ListExamples
mod KnownExamples
