-- Lemmas of this crate.
pub mod Paths
pub mod Prefixes
mod LinesRead
mod Ceilings
mod FaultlessFiles
pub mod WholeSplices
pub mod Walks
mod Lengths
mod KeptReaders
mod LevelPaths
mod NextLevels
mod ReaderLevels
pub mod FoundFiles
mod Lists
mod Sets
mod GroupSights
mod Steps
mod Tries
mod Records
mod EarlyReads
mod BorderOffsets
mod FoundChoices
mod GroupSearches
mod GroupRuns
mod Orders
pub mod FoundMore
pub mod NoGroups
pub mod FilesExamples
pub mod Members
pub mod OneFile
pub mod ReadFiles
pub mod FilesOfSearch
pub mod SeenFiles
pub mod Verdicts
pub mod TakenFiles
mod CutFiles
