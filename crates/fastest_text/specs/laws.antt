pub mod RequestLaws
pub mod LongRequests
pub mod AnswerLaws
