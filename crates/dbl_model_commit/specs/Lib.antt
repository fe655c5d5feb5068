pub use Rattle.dbl_model_history.specs as ModelHistory
pub use Rattle.dbl_model_table.specs as ModelTable
pub use Rattle.dbl_value_types.specs as Value
pub use Rattle.dbl_pgmsg.specs as Pgmsg
pub mod Past
pub mod Tuples
pub mod Stated
pub mod Blocks
pub mod StatedFits
pub mod BegunCommits
pub mod StatedChanges
pub mod Pieces
pub mod Shapes
pub mod Shaped
