-- Sets counted by tests.
pub mod Counted
