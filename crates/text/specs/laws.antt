pub mod DecimalLaws
pub mod ReadingLaws
pub mod WritingLaws
pub mod Cutting
pub mod DividedLaws
pub mod LineEndLaws
