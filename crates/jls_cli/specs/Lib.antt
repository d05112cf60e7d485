-- What the contracts of this crate cite.
pub mod FaultLines
pub mod Outcomes
pub mod Outputs
pub mod SalvageAsking
pub mod SalvageWords
pub mod SpliceAsking
pub mod SpliceWords
pub mod Words
pub mod Answers
pub mod BadValues
