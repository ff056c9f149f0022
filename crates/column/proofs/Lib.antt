-- Laws and examples of definitions that a wrong definition must be refused by: the files of specs/ are read before any proof.
pub mod laws
mod examples
