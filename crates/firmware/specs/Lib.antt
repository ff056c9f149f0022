pub mod Blocks
pub mod LoneSteps
pub mod Calls
pub mod inner
pub mod laws
pub mod examples
