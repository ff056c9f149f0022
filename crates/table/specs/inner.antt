pub mod Held
pub mod NumberLists
pub mod HeldTables
