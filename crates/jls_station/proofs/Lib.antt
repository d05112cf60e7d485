-- Lemmas of this crate.
pub mod CopyEnds
pub mod CopySteps
pub mod KnownCopies
pub mod KnownInputs
pub mod Mapped
pub mod Marked
pub mod OneInput
pub mod CopiesInTurn
pub mod CopyReads
pub mod ReadingOn
pub mod ReadBytes
pub mod TextsApart
pub mod FailedReads
