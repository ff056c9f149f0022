pub mod TreeExamples
pub mod Premises
