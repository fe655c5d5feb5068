pub mod Counts
pub mod Kept
pub mod Tears
pub mod Calls
