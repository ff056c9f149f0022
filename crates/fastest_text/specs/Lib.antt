pub mod Requests
pub mod inner
pub mod laws
pub mod examples
