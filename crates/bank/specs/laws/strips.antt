pub mod Rewriting
pub mod StripStates
pub mod StripLaws
