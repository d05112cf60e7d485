-- What the contracts of this crate cite.
pub mod Asking
pub mod Running
pub mod Mending
pub mod Laws
