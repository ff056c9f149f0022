pub mod JournalExamples
