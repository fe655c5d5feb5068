pub use Rattle.dbl_model_commit.specs as ModelCommit
pub use Rattle.dbl_model_commit.specs.ModelHistory
pub mod Standings
pub mod Growth
pub mod Stated
pub mod Selected
pub mod Calls
pub mod Answered
pub mod Leaves
pub mod Trace
pub mod Laws
