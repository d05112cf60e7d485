-- What the contracts of this crate cite.
pub mod RunLaws
pub mod JoinThenWrite
pub mod NoOtherLaws
pub mod RunToRun
