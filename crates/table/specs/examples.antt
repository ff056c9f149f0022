pub mod TableExamples
