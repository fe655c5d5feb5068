pub use Rattle.dbl_model_event.proofs.EventLemmas as ModelEventEventLemmas
pub mod CommitLemmas
pub mod ClashLemmas
pub mod SuitLemmas
pub mod SuitTests
pub mod SnapshotLemmas
pub mod TailLemmas
pub mod TellLemmas
pub mod WrittenLemmas
pub mod SoFarLemmas
