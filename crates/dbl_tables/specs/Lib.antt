pub mod Stands
pub mod FirstRows
pub mod Places
pub mod Truncates
pub mod Shown
pub mod Altering
