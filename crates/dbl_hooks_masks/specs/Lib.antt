pub use Rattle.dbl_model_commit.specs as ModelCommit
pub mod Masks
pub mod Messages
pub mod Faults
pub mod Places
