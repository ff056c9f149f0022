pub mod DoorLaws
pub mod ClosingLaws
