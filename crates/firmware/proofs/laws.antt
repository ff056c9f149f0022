pub mod AnswerLaws
pub mod BlockLaws
pub mod ByteLaws
pub mod FitLaws
pub mod KeptLaws
pub mod PutLaws
pub mod ReadLaws
