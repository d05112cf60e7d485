pub mod Members
mod ScanBegins
mod PayloadFields
pub mod SegmentSets
pub mod CutOff
pub mod CopyScans
mod ByLine
pub mod Gives
pub mod FileExamples
pub mod SampleExamples
