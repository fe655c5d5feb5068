pub mod ShapeLemmas
pub mod CalendarSteps
pub mod ClockLemmas
pub mod FractionSteps
pub mod StampLemmas
pub mod ZuluLemmas
