pub mod Halts
pub mod Reports
pub mod Ends
pub mod InitErrors
