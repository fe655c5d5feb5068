pub use Rattle.dbl_model_table.proofs.Capturable as ModelTableCapturable
pub use Rattle.dbl_model_table.proofs.InfoLemmas as ModelTableInfoLemmas
pub use Rattle.dbl_model_table.proofs.KeyLemmas as ModelTableKeyLemmas
pub use Rattle.dbl_model_table.proofs.Lists as ModelTableLists
pub use Rattle.dbl_model_table.proofs.Making as ModelTableMaking
pub use Rattle.dbl_pgmsg.proofs.MessageSizes as PgmsgMessageSizes
pub use Rattle.dbl_source_log.proofs.CellTexts as SourceLogCellTexts
pub use Rattle.dbl_source_log.proofs.FitLogLemmas as SourceLogFitLogLemmas
pub use Rattle.dbl_source_log.proofs.KeyTexts as SourceLogKeyTexts
pub use Rattle.dbl_source_log.proofs.LogLemmas as SourceLogLogLemmas
pub use Rattle.dbl_source_log.proofs.ModelHistoryBoundLemmas
pub use Rattle.dbl_source_log.proofs.ModelHistoryRangeLemmas
pub use Rattle.dbl_source_log.proofs.ModelHistoryRowKeys
pub use Rattle.dbl_source_log.proofs.RelationLemmas as SourceLogRelationLemmas
pub use Rattle.dbl_source_log.proofs.RowTexts as SourceLogRowTexts
pub use Rattle.dbl_source_log.proofs.SentLemmas as SourceLogSentLemmas
pub use Rattle.dbl_source_log.proofs.SourceModelGrowthLemmas
pub use Rattle.dbl_source_log.proofs.ThemselvesLemmas as SourceLogThemselvesLemmas
pub mod CellLemmas
pub mod KeyTexts
pub mod SizeLemmas
pub mod Utf8Lemmas
pub mod RestLemmas
pub mod PlaceLemmas
pub mod SlotLemmas
pub mod EndKeys
pub mod RowLemmas
pub mod LeastLemmas
