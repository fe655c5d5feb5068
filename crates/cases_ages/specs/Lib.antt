pub mod Trace
pub mod PlainRows
pub mod PlainEvents
pub mod PlainAges
