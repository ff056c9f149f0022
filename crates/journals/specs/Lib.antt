pub mod Journals
pub mod PacketLines
pub mod inner
pub mod laws
pub mod examples
