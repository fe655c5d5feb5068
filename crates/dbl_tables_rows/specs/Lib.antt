pub use Rattle.dbl_source_log.specs as SourceLog
pub use Rattle.dbl_source_log.specs.SourceModel
pub use Rattle.dbl_source_log.specs.ModelCommit
pub use Rattle.dbl_source_log.specs.ModelHistory
pub use Rattle.dbl_model_table.specs as ModelTable
pub use Rattle.dbl_value_types.specs as Value
pub use Rattle.dbl_pgmsg.specs as Pgmsg
pub mod Acts
pub mod Seen
pub mod Locks
pub mod Cells
pub mod Sending
pub mod Refusals
pub mod Steps
pub mod Serial
pub mod Selects
pub mod Given
pub mod Views
pub mod Holders
pub mod Listed
pub mod Changing
pub mod Ends
