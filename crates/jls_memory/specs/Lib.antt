-- What the contracts of this crate cite.
pub mod Files
pub mod Outputs
pub mod Inputs
pub mod Desks
pub mod Held
pub mod Laws
