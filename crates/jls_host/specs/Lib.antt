-- What the contracts of this crate cite.
pub mod Choices
pub mod Disk
pub mod CallCode
pub mod Called
pub mod Standings
pub mod Recorded
pub mod Moments
pub mod Outputs
pub mod Steps
