pub mod Appends
pub mod Called
pub mod Growth
pub mod Crashes
pub mod Reading
pub mod Scans
pub mod Tears
