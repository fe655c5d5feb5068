pub use Rattle.dbl_tables_laws.specs as TablesLaws
pub mod Entries
pub mod Reading
pub mod Claims
pub mod Contents
pub mod Workloads
pub mod Sound
pub mod Wals
pub mod Groups
pub mod Standings
pub mod CrashState
pub mod SoundLaws
pub mod LogLaws
pub mod Shown
pub mod SelectLaws
pub mod Example
