pub mod ChoiceLaws
pub mod UncheckedLaws
pub mod KeptLaws
pub mod PageLaws
