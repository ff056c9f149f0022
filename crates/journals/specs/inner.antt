pub mod Chains
pub mod KeyedLines
pub mod LineWords
pub mod ReadJournals
pub mod ReadTexts
