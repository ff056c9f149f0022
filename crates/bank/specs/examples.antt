pub mod StepExamples
