pub use Rattle.dbl_window.proofs.HonestLemmas as WindowHonestLemmas
pub use Rattle.dbl_window.proofs.LawLemmas as WindowLawLemmas
pub use Rattle.dbl_window.proofs.LeftLemmas as WindowLeftLemmas
pub use Rattle.dbl_window.proofs.PromiseLemmas as WindowPromiseLemmas
pub use Rattle.dbl_window.proofs.SourceModelGrowthLemmas
pub use Rattle.dbl_window.proofs.SourceModelReadLemmas
pub mod StepLemmas
pub mod SnapshotSteps
pub mod AmidLemmas
pub mod PartLemmas
