pub use Rattle.dbl_source_log.proofs.LogLemmas as SourceLogLogLemmas
pub use Rattle.dbl_source_log.proofs.PlaceLemmas as SourceLogPlaceLemmas
pub use Rattle.dbl_source_log.proofs.ReaderLemmas as SourceLogReaderLemmas
pub use Rattle.dbl_source_log.proofs.SentLemmas as SourceLogSentLemmas
pub use Rattle.dbl_source_model.proofs.GrowthLemmas as SourceModelGrowthLemmas
pub use Rattle.dbl_source_model.proofs.PlainLemmas as SourceModelPlainLemmas
pub use Rattle.dbl_source_model.proofs.ReadLemmas as SourceModelReadLemmas
pub mod LogStates
pub mod EntryLemmas
