-- The proof of the comparison: what refusals say, the order of service, then a file for each command.
pub mod Apart
pub mod Refusals
pub mod Members
pub mod Commands
pub mod Owed
pub mod Send
pub mod Note
pub mod Take
pub mod Takeover
pub mod Ack
pub mod Broadcast
pub mod Comparison
