pub mod LossesLaws
