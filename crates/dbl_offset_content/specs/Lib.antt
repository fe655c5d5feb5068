pub mod Entries
pub mod Offsets
pub mod Reading
pub mod Measures
