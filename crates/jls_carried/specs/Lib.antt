pub mod CodingLines
