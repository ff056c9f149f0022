pub mod Tables
pub mod TableReads
pub mod inner
pub mod laws
pub mod examples
