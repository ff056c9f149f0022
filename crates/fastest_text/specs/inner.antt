pub mod RequestAnswers
