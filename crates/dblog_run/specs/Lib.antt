pub use Rattle.dblog_run_stores.specs.Disks
pub use Rattle.dblog_run_stores.specs.Inits
pub use Rattle.dblog_capture.specs as Capture
pub use Rattle.dblog_streams.specs as Streams
pub use Rattle.dblog_streams.specs.Replay
pub use Rattle.dblog_capture.specs.Connect
pub use Rattle.dblog_capture.specs.Connect.Promise
pub use Rattle.dblog_capture.specs.Connect.CaptureLaws
pub use Rattle.dblog_capture.specs.Connect.CaptureWork
pub use Rattle.dblog_capture.specs.Connect.CaptureModel
pub use Rattle.dblog_init.specs as Init
pub use Rattle.dblog_init.specs.DemoLaws
pub use Rattle.dblog_capture.specs.Connect.Window
pub mod Laws
pub mod Means
pub mod Sessions
