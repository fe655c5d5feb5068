pub use Rattle.dbl_capture_model.specs as CaptureModel
pub use Rattle.dbl_follow.specs as Follow
pub use Rattle.dbl_window.specs as Window
pub use Rattle.dbl_source.specs as Source
pub use Rattle.dbl_source.specs.SourceLog
pub use Rattle.dbl_source_model.specs as SourceModel
pub use Rattle.dbl_txn.specs as Txn
pub use Rattle.dbl_capture_model.specs.Faithful
pub use Rattle.dbl_disk.specs as Disk
pub use Rattle.dbl_offset_content.specs as Offset
pub use Rattle.dbl_offset.specs as OffsetStore
pub use Rattle.dbl_window.specs.ConsumeLaws
pub use Rattle.dbl_envelope.specs.ModelEvent
pub use Rattle.dbl_model_commit.specs as ModelCommit
pub use Rattle.dbl_model_history.specs as ModelHistory
pub mod Halts
pub mod Works
pub mod Begins
pub mod Windowed
pub mod Causes
pub mod Groups
pub mod Takes
