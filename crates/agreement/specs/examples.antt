pub mod Runs
pub mod Premises
pub mod DispatchRuns
pub mod TurnRuns
pub mod PacketRuns
pub mod ReturnRuns
pub mod JournalRuns
pub mod LosingRuns
