pub use Rattle.dbl_capture.specs as Capture
pub mod Passed
pub mod Inner
