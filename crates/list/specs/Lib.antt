pub mod Closing
pub mod laws
pub mod examples
