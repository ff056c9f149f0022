pub mod LossTextLaws
