pub mod Gathering
pub mod Writing
pub mod Statuses
pub mod Faults
pub mod Says
pub mod LongTexts
