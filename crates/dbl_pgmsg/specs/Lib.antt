pub mod Grammar
pub mod Reading
pub mod Fields
pub mod Faults
pub mod Room
