pub mod LineLemmas
pub mod Readings
