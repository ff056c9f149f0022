pub mod ComparisonExamples
