-- Lemmas of this crate.
pub mod MappedLists
mod CodingNumbers
pub mod CodingLineExamples
