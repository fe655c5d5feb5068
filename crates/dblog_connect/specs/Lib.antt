pub use Rattle.dblog_promise.specs as Promise
pub use Rattle.dbl_capture.specs.CaptureLaws
pub use Rattle.dbl_capture.specs.CaptureWork
pub use Rattle.dbl_capture.specs.CaptureModel
pub use Rattle.dbl_capture.specs.Window
pub use Rattle.dblog_connect_ends.specs as ConnectEnds
pub use Rattle.dblog_connect_ends.specs.Errors
pub mod Followed
pub mod Asked
pub mod Disks
pub mod Ends
pub mod Refusals
pub mod Steps
