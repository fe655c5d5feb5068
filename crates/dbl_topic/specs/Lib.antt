pub mod Logs
pub mod Sinks
pub mod Memory
pub mod Held
pub mod Faults
pub mod SinkLaws
pub mod Model
pub mod Keeps
