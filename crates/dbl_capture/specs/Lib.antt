pub use Rattle.dbl_capture_laws.specs as CaptureLaws
pub use Rattle.dbl_capture_work.specs as CaptureWork
pub use Rattle.dbl_capture_work.specs.CaptureModel
pub use Rattle.dbl_capture_work.specs.Window
pub mod Begun
pub mod Gone
pub mod WindowSteps
pub mod ReadSteps
pub mod StoreSteps
pub mod TurnSteps
pub mod OpenSteps
pub mod SessionEnds
