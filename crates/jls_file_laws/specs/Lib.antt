pub mod Covering
pub mod FileLaw
