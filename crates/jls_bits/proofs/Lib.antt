pub mod Appending
pub mod BytesMade
pub mod ChunkBits
pub mod ChunkSteps
pub mod CodeSteps
pub mod Codes
pub mod CodesBegun
pub mod DataBits
pub mod Fronts
pub mod GolombReading
pub mod Markers
pub mod NumberBits
pub mod PackedBits
pub mod Padding
pub mod Unstuffing
mod WorkedExamples
