pub mod Errors
pub mod Ends
