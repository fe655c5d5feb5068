pub use Rattle.dbl_model_event.proofs.EventLemmas as ModelEventEventLemmas
pub use Rattle.dbl_model_history.proofs.BoundLemmas as ModelHistoryBoundLemmas
pub use Rattle.dbl_model_history.proofs.FitsInfosLemmas as ModelHistoryFitsInfosLemmas
pub use Rattle.dbl_model_history.proofs.MarkLemmas as ModelHistoryMarkLemmas
pub use Rattle.dbl_model_history.proofs.MomentLemmas as ModelHistoryMomentLemmas
pub use Rattle.dbl_model_history.proofs.RowLemmas as ModelHistoryRowLemmas
pub use Rattle.dbl_model_history.proofs.WholeLemmas as ModelHistoryWholeLemmas
pub mod Wholes
pub mod Notices
pub mod Lines
pub mod SnapshotLines
pub mod Topics
pub mod Acts
pub mod Held
pub mod Steps
pub mod Consumers
pub mod Named
pub mod Cells
pub mod CellEvents
pub mod ReadRows
pub mod Clashes
pub mod Prints
pub mod Letters
pub mod CellEffects
pub mod Commits
pub mod Lists
pub mod AgeingCells
pub mod Moments
pub mod KnownKeys
pub mod AgeingRows
pub mod Effects
pub mod Parts
pub mod AgeingSteps
pub mod Spans
pub mod Events
pub mod Deliver
pub mod Changes
pub mod Snapshot
pub mod Between
pub mod Rows
pub mod AgeingNames
