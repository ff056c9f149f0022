pub mod AcceptedLists
pub mod SetTests
pub mod FirstAccepted
pub mod ReadyAfter
pub mod TurnLaws
pub mod TurnsTaken
