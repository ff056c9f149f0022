pub mod RequestExamples
