pub mod AllLines
mod EntryCounts
pub mod EachLine
mod FullCount
pub mod LongestRanges
pub mod Members
pub mod OfShape
pub mod OneMore
pub mod PrintedNumbers
pub mod RangeEnds
mod ReportTextExamples
pub mod WorkedRows
