pub use Rattle.dblog_capture_text.specs.Halts
pub use Rattle.dblog_capture_text.specs.Reports
pub use Rattle.dblog_capture_text.specs.Ends
pub use Rattle.dblog_capture_text.specs.InitErrors
pub use Rattle.dblog_connect.specs as Connect
pub mod Runs
pub mod Generated
