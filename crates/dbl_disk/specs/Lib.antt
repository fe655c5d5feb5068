pub mod Disks
pub mod Fuse
pub mod Memory
pub mod Model
pub mod Calls
