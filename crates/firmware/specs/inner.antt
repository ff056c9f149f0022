pub mod BlockReads
pub mod JournalTexts
pub mod StepCalls
