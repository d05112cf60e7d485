pub mod Walk
pub mod OneCode
pub mod PlacedLines
pub mod HeldLines
pub mod EditedFiles
pub mod CopiesOfOneFile
pub mod OneLength
pub mod SameHeads
pub mod ScanWalk
pub mod UnitsWalk
pub mod StrictHeads
pub mod SettledPictures
mod ExampleTests
mod SkeletonExamples
mod TwoCodingExamples
