-- Examples of the order in which two journals' lines are told.
pub mod JournalOrder
