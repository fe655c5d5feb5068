pub mod InitStatuses
pub mod EndStatuses
