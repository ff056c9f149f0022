-- Laws that a wrong definition of a step must be refused by: the files of specs/ are read before any proof.
pub mod laws
