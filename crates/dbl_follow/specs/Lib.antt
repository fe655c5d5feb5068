pub use Rattle.dbl_window.specs as Window
pub use Rattle.dbl_window.specs.SourceModel
pub use Rattle.dbl_window.specs.ModelCommit
pub mod Followed
pub mod Steps
pub mod Amid
pub mod Faults
pub mod Laws
