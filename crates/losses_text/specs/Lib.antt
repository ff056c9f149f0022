pub mod LossTexts
pub mod inner
pub mod laws
pub mod examples
