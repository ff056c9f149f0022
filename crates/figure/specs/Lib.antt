pub mod Figure
pub mod Comparison
pub mod examples
