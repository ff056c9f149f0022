-- Laws and examples that a wrong layout of a block must be refused by: the files of specs/ are read before any proof.
pub mod examples
pub mod laws
