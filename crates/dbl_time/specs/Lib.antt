pub mod Shapes
pub mod Dates
pub mod Clocks
pub mod Stamps
