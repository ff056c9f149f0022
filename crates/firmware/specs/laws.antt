pub mod CallLaws
pub mod FillLaws
pub mod LoneLaws
pub mod JournalTextLaws
pub mod PacketCopies
pub mod ReturnCalls
pub mod TableLength
pub mod JoinLaws
