pub use Rattle.dbl_model_history.specs as ModelHistory
pub mod Events
pub mod EventJson
pub mod Clashes
pub mod Snapshots
pub mod EventLaws
pub mod SnapshotLists
pub mod OpenEvents
