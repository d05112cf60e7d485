-- What the contracts of this crate cite.
pub mod AllInputs
pub mod Joining
pub mod CommandLaws
pub mod Reporting
pub mod Tracing
pub mod WritingFiles
pub mod BrokenReads
pub mod FaultLines
pub mod RunLaws
pub mod Runs
pub mod Statuses
