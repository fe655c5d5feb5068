pub mod Lines
pub mod Memory
pub mod Streams
pub mod Texts
