pub mod LossesExamples
