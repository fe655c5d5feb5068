pub use Rattle.dbl_model_event.specs as ModelEvent
pub use Rattle.dbl_model_history.specs as ModelHistory
pub mod Laws
pub mod Cells
pub mod Snapshots
pub mod Clashes
pub mod Prints
pub mod Letters
pub mod Effects
pub mod Commits
pub mod Moments
pub mod KnownKeys
pub mod Ages
pub mod Windows
pub mod ChangeLaws
pub mod SnapshotLaws
pub mod SessionAges
pub mod RowLaws
