pub mod TreePasses
pub mod Bounds
