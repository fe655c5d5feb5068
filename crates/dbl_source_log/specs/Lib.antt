pub use Rattle.dbl_source_model.specs as SourceModel
pub use Rattle.dbl_source_model.specs.ModelCommit
pub use Rattle.dbl_source_model.specs.ModelHistory
pub mod Numbers
pub mod Relations
pub mod Texts
pub mod TextRows
pub mod Alterations
pub mod Sent
pub mod RawChanges
pub mod Histories
pub mod Fair
pub mod FitLogs
pub mod Laws
pub mod Readings
