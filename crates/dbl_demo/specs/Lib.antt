pub use Rattle.dbl_demo_laws.specs as DemoLaws
pub use Rattle.dbl_demo_workload.specs as DemoWorkload
pub use Rattle.dbl_demo_wal.specs as DemoWal
pub use Rattle.dbl_source_log.specs as SourceLog
pub use Rattle.dbl_source_model.specs as SourceModel
pub mod Errors
pub mod Begun
