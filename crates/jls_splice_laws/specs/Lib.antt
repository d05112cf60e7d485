-- What the contracts of this crate cite.
pub mod ProfileFiles
pub mod WholeFiles
pub mod Searches
pub mod Taken
pub mod SpliceLaws
pub mod SplicingLaws
pub mod CutLaws
pub mod RunLaws
pub mod CarryLaws
pub mod CompletedLaws
pub mod Failures
