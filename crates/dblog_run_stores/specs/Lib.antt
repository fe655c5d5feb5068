pub mod Disks
pub mod Inits
pub mod Runs
