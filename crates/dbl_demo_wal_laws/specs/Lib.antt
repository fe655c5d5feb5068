pub mod Moved
pub mod Readable
