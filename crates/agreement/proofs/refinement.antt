-- Every accepted step of the bank is a move of the model, and what holds after every list of steps.
pub mod RefineCommon
pub mod RefineOwn
pub mod RefineTake
pub mod RefineBack
pub mod ReceivedByMoves
pub mod Told
pub mod Reached
pub mod Quiet
pub mod RestQuiet
pub mod Away
pub mod DispatchKept
