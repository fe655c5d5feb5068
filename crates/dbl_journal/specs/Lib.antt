pub mod Form
pub mod Steps
pub mod Stored
pub mod Calls
pub mod Growth
