pub mod Losses
pub mod inner
pub mod laws
pub mod examples
