-- The journals beside the columns and the packets under way.
pub mod PacketsLogged
pub mod Dues
pub mod JournalsKept
pub mod StepPackets
