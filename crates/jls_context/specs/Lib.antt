pub mod BiasSteps
pub mod Bounds
pub mod Errors
pub mod Interruption
pub mod Mode
pub mod Prediction
pub mod Regular
pub mod Variables
