pub mod StrictlyHeld
pub mod TrueFiles
pub mod Laws
