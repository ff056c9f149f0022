pub mod LoneListExamples
