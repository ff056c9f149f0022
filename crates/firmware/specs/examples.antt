pub mod BlockExamples
pub mod LoneExamples
