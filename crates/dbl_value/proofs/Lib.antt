pub mod ReadBack
pub mod DateForms
pub mod HexForms
pub mod ClockForms
pub mod InstantForms
pub mod RangeForms
