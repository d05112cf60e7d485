pub mod MendedCopies
pub mod HeldMarks
pub mod EditedCopies
pub mod LineBytes
pub mod LinePlaces
pub mod RowBytes
pub mod RowPlaces
pub mod WholeRows
pub mod PieceChains
pub mod HeldReadings
pub mod FoundPieces
mod EditExamples
mod JudgingExamples
