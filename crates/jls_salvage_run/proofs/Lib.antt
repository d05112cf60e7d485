-- Lemmas of this crate.
pub mod Held
pub mod InTurn
pub mod InputBytes
pub mod JoinSteps
pub mod NextInputs
pub mod Reported
mod TooLarge
mod TraceExamples
pub mod WholeRuns
pub mod Written
mod BrokenReads
mod FaultLineExamples
mod FailedRuns
pub mod Finished
mod RefusedRuns
pub mod RefusedWords
pub mod Running
mod RunsWithoutOutput
mod WantOfMemory
mod WordStatuses
