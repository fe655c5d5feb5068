pub use Rattle.dbl_tables_rows.specs as TablesRows
pub use Rattle.dbl_tables_rows.specs.SourceLog
pub use Rattle.dbl_tables_rows.specs.SourceModel
pub use Rattle.dbl_tables_rows.specs.ModelHistory
pub mod Reachable
pub mod Laws
