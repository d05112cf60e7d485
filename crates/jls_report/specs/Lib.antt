pub mod Lines
pub mod Ranges
pub mod Report
pub mod ReportText
