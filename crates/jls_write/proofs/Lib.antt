-- Lemmas of this crate.
pub mod Columns
pub mod Handing
mod Joining
pub mod Lending
pub mod OneMore
pub mod Sampled
pub mod Sizes
pub mod WholePictures
pub mod IntervalLines
pub mod FileLength
mod FileHanding
mod PackedLength
mod ScanIds
mod Scans
mod WrittenFileExamples
mod PnmExamples
