pub mod HeldLaws
pub mod PieceLaws
pub mod NumberListLaws
pub mod TableLaws
pub mod TableTexts
