pub use Rattle.dbl_source_model.proofs.GrowthLemmas as SourceModelGrowthLemmas
pub use Rattle.dbl_source_model.proofs.PlainLemmas as SourceModelPlainLemmas
pub use Rattle.dbl_source_model.proofs.ModelHistoryBoundLemmas
pub use Rattle.dbl_source_model.proofs.ModelHistoryRangeLemmas
pub use Rattle.dbl_source_model.proofs.ModelHistoryRowKeys
pub mod AlterationLemmas
pub mod LogLemmas
pub mod SentLemmas
pub mod PlaceLemmas
pub mod RelationLemmas
pub mod CellTexts
pub mod KeyTexts
pub mod ThemselvesLemmas
pub mod ChangeLemmas
pub mod FairLemmas
pub mod InsideLemmas
pub mod ReaderLemmas
pub mod RowTexts
pub mod OwnColumns
pub mod FitLogLemmas
pub mod MarkLemmas
pub mod ReadingLemmas
pub mod DescribedLemmas
