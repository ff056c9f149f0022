pub mod LapLaws
