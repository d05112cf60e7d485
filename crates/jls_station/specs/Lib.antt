-- What the contracts of this crate cite.
pub mod Forms
pub mod Given
pub mod InputFaults
pub mod Inputs
pub mod KnownCopies
pub mod KnownInputs
pub mod Reading
pub mod TakingCopies
pub mod Texts
pub mod CopyFiles
