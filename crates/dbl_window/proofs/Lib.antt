pub use Rattle.dbl_consume_laws.proofs.Acts as ConsumeLawsActs
pub use Rattle.dbl_consume_laws.proofs.CellEvents as ConsumeLawsCellEvents
pub use Rattle.dbl_consume_laws.proofs.Commits as ConsumeLawsCommits
pub use Rattle.dbl_consume_laws.proofs.Consumers as ConsumeLawsConsumers
pub use Rattle.dbl_consume_laws.proofs.Events as ConsumeLawsEvents
pub use Rattle.dbl_consume_laws.proofs.Lists as ConsumeLawsLists
pub use Rattle.dbl_consume_laws.proofs.Notices as ConsumeLawsNotices
pub use Rattle.dbl_consume_laws.proofs.Prints as ConsumeLawsPrints
pub use Rattle.dbl_consume_laws.proofs.ReadRows as ConsumeLawsReadRows
pub use Rattle.dbl_consume_laws.proofs.Snapshot as ConsumeLawsSnapshot
pub use Rattle.dbl_consume_laws.proofs.Topics as ConsumeLawsTopics
pub use Rattle.dbl_source.proofs.SourceModelGrowthLemmas
pub use Rattle.dbl_source.proofs.SourceModelReadLemmas
pub mod Overlays
pub mod LeftLemmas
pub mod OrderLemmas
pub mod PromiseLemmas
pub mod LawLemmas
pub mod Effects
pub mod CellLemmas
pub mod ReadLemmas
pub mod HonestLemmas
pub mod FaultLemmas
pub mod MapLemmas
pub mod SelectLemmas
pub mod FitLemmas
pub mod Loops
pub mod LoopLemmas
pub mod FirstFaults
pub mod RightLemmas
