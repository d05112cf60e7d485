pub mod Rows
mod CallLaws
pub mod Shown
pub mod Sizes
pub mod Reported
pub mod Fitting
pub mod Texts
pub mod Known
pub mod Planned
pub mod Mending
mod AnswerExamples
mod SampleExamples
mod MendExamples
mod CallExamples
