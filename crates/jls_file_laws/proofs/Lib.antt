pub mod Covering
mod WrittenPieces
mod WrittenScans
mod WrittenUnits
mod HeadsTaken
pub mod WrittenBytes
pub mod FileRead
