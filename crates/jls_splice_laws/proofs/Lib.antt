-- Lemmas of this crate.
mod StrictRefusals
pub mod StrictCourses
pub mod ProfileFiles
mod WholeFiles
mod FileReadings
mod Searching
mod SettledFiles
mod TakenFiles
mod FaultlessExamples
mod CutExamples
pub mod HeldFiles
pub mod SplicedCopies
pub mod CutFiles
pub mod DoneRuns
mod TrueCodings
mod CarriedRuns
mod FailedRuns
mod MadeExamples
mod CarriedExamples
mod HeldRowExamples
mod HandedFiles
mod StoppedRuns
mod LongerFiles
mod WideReadings
mod CompletedFiles
