-- The model that the argument is about, its moves, and the model of a bank.
pub mod Model
pub mod Move
pub mod Members
pub mod View
pub mod Conditions
