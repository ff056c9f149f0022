pub mod BankLists
pub mod Lines
pub mod Scripts
pub mod Advances
pub mod inner
pub mod laws
pub mod examples
