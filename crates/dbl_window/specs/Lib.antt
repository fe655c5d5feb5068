pub use Rattle.dbl_source.specs.SourceModel
pub use Rattle.dbl_consume_laws.specs as ConsumeLaws
pub use Rattle.dbl_source.specs.ModelCommit
pub mod Plans
pub mod Errors
pub mod Reading
pub mod ReadParts
pub mod Changing
pub mod Selected
pub mod Leaving
pub mod Promise
pub mod Laws
pub mod ClosingLaws
pub mod RightLaws
