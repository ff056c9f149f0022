pub mod Changes
pub mod Surveys
pub mod Turning
pub mod NetworkWords
pub mod Moves
pub mod Returning
