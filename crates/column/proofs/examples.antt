mod StepExamples
mod TreeExamples
