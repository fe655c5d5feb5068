pub use Rattle.dbl_source_log.specs as SourceLog
pub use Rattle.dbl_source_model.specs as SourceModel
pub use Rattle.dbl_source_model.specs.ModelCommit
pub use Rattle.dbl_source_model.specs.ModelHistory
pub mod Model
pub mod LogStates
pub mod Keeps
