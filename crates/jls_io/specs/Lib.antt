-- What the contracts of this crate cite.
pub mod Asked
pub mod Counts
pub mod Event
pub mod EventCode
pub mod Noted
pub mod Remaining
pub mod Writing
pub mod Names
pub mod Lines
pub mod Handing
pub mod FaultLines
pub mod Outputs
