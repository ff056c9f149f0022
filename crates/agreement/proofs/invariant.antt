-- The invariant, kept by every move, and the bank at rest.
pub mod Invariant
pub mod InvariantCarried
pub mod Links
pub mod Packets
pub mod Adjusting
pub mod Serving
pub mod Taking
pub mod RecordMoves
pub mod Still
pub mod Back
pub mod BackKept
pub mod InvariantKept
pub mod Rest
pub mod Validity
