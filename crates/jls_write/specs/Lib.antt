-- What the contracts of this crate cite.
pub mod Lent
pub mod Options
pub mod Outcomes
pub mod Picture
pub mod Pnm
pub mod Samples
pub mod Unsettled
pub mod Waiting
pub mod WholePictures
pub mod Parts
pub mod Stops
pub mod WrittenFile
