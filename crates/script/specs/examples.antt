pub mod LineExamples
pub mod ScriptExamples
pub mod Edges
pub mod ListExamples
