pub mod Schedules
pub mod Strategy
pub mod Formula
pub mod Fastest
pub mod laws
pub mod examples
