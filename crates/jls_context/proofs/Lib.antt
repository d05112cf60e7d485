pub mod BiasSteps
pub mod Contexts
mod ErrorExamples
mod ExampleScans
pub mod GolombLaws
pub mod Gradients
mod InterruptionExamples
mod ModeExamples
pub mod Predictions
mod RegularExamples
pub mod Remainders
pub mod Samples
pub mod Sizes
pub mod Updates
pub mod Writes
