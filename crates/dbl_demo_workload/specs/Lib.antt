pub use Rattle.dbl_tables.specs as Tables
pub use Rattle.dbl_demo_wal.specs as DemoWal
pub use Rattle.dbl_tables_rows.specs as TablesRows
pub use Rattle.dbl_script.specs as Script
pub mod Errors
pub mod Steps
pub mod Ready
pub mod Refusals
pub mod Preparing
pub mod Checking
pub mod Logs
pub mod Laws
