-- What the contracts of this crate cite.
pub mod Parts
pub mod PartsOf
pub mod SpliceLaws
pub mod Borders
pub mod Groups
