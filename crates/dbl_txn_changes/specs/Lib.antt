pub mod Answers
pub mod KnownTables
