pub mod Search
pub mod Text
pub mod Pieces
pub mod inner
pub mod laws
pub mod examples
