pub mod ScanNumbers
mod Placed
pub mod LostIntervals
mod ScansInRange
mod Trims
pub mod Held
mod CopyGives
pub mod SameCopies
pub mod Unions
pub mod Stations
pub mod SourcedStations
pub mod Collected
pub mod TookFiles
pub mod KnownReadings
mod CutTexts
pub mod Pictures
pub mod WrittenFiles
pub mod StationPictures
mod CollectedPictures
pub mod OneLine
mod TrimmedLines
pub mod ColumnFiles
pub mod TwoLineCopies
pub mod TwoLineExamples
mod CollectedExamples
mod WrongCallExamples
pub mod FileExamples
mod PremiseExamples
mod SameCopyExamples
mod TenLineExamples
mod HeadExamples
mod EitherWayExamples
pub mod ClosedExamples
mod SourcedExamples
mod SampleExamples
mod TwoCodingExamples
