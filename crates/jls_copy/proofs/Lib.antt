mod OneMoreByte
pub mod OneCut
mod UnitsCut
pub mod NumbersGiven
mod CutExamples
mod DefinitionExamples
mod OnePieceFile
pub mod TwoScanExamples
pub mod ByLineExamples
pub mod TwoByLineExamples
pub mod CutCopyExamples
pub mod OneCourse
pub mod Fitting
mod HeaderFacts
mod Alike
mod Kept
mod Outcomes
mod TellsMore
mod TellsScan
mod TellsSegment
mod ReadingTells
pub mod CourseFed
mod Stretches
mod StrictReaders
mod WideReaders
mod Idle
mod PayloadStretch
mod SegmentStretch
mod MachineTakes
mod ScanTakes
mod StretchEnds
mod Gathering
mod Clones
mod CutOutcomes
pub mod CutPieces
mod CutGathering
mod CopyFed
pub mod ScansOfCourse
pub mod BytesDecide
pub mod ByLine
pub mod FinalEnds
mod SegmentFaults
mod TellingLaws
mod OtherEnds
mod EndExamples
mod Prefixes
mod FaultyPieces
mod EndsOfCourse
mod SettledPieces
mod PrefixReadings
mod PiecesInHand
pub mod ReadGives
