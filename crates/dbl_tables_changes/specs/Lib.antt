pub use Rattle.dbl_tables_laws.specs as TablesLaws
pub mod AcceptedSteps
pub mod Written
pub mod Planned
pub mod Taking
pub mod First
pub mod Laws
