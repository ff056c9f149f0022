pub mod LossTextExamples
