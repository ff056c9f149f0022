pub mod LossAnswers
