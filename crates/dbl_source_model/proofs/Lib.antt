pub use Rattle.dbl_model_commit.proofs.MarkedLemmas as ModelCommitMarkedLemmas
pub use Rattle.dbl_model_commit.proofs.ModelHistoryBoundLemmas
pub use Rattle.dbl_model_commit.proofs.ModelHistoryRangeLemmas
pub use Rattle.dbl_model_commit.proofs.ModelHistoryRowKeys
pub use Rattle.dbl_model_commit.proofs.ModelHistoryRowLemmas
pub use Rattle.dbl_model_commit.proofs.ValueTypeLemmas
pub mod GrowthLemmas
pub mod ReadLemmas
pub mod CallLemmas
pub mod FitLemmas
pub mod PlainLemmas
pub mod ShapedLemmas
mod StatedColumns
mod SelectLemmas
